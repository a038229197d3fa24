-- Messages: their parts, and the bytes that they are written as.
use Rattle.std.specs.Prelude.{◌≡◌, ℕ, ◌^◌, ◌<◌, List, ◌∷◌, ◌++◌, length}
use Rattle.packing.specs.Packing.{digits, packed, AllFit}
use Rattle.profile.specs.declared.numbers.Numbers.{Numbers}
use Rattle.message.specs.declared.fixed_lengths.TheConstants.{COUNT_LENGTH}
use Rattle.profile.specs.declared.seed.TheConstants.{SEED_LENGTH}
use Rattle.message.specs.declared.kind.Kind.{Kind}
use Rattle.message.specs.declared.kind.Kind.TheVariants.{Offer, Answer, Confirmation}

-- a message by its parts: all have a round, an offer has a seed and rounded values, an answer rounded values
-- and signals
pub data Message : Type 0 where
  offer : (round : ℕ) (seed values : List ℕ) → Message
  answer : (round : ℕ) (values signals : List ℕ) → Message
  confirmation : (round : ℕ) → Message

abbrev pub kind_byte : Kind → ℕ
kind_byte Offer = 1
kind_byte Answer = 2
kind_byte Confirmation = 3

-- a number in so many bytes, the low byte first
abbrev pub low_first : (many : ℕ) → ℕ → List ℕ
low_first many x = digits 8 many x

-- a section: how many bytes it has, and then the bytes
abbrev pub section : List ℕ → List ℕ
section contents = low_first COUNT_LENGTH (length contents) ++ contents

-- a head: the kind, the profile's two bytes, and the round in four
abbrev pub head : Numbers → Kind → ℕ → List ℕ
head k kind round = kind_byte kind ∷ k.numbers_byte ∷ k.reconciler_byte ∷ low_first 4 round

-- the bytes of a message
abbrev pub encoded : Numbers → Message → List ℕ
encoded k (offer round seed values) =
    section (head k Offer round) ++ section seed ++ section (packed k.w values)
encoded k (answer round values signals) =
    section (head k Answer round) ++ section (packed k.w values) ++ section (packed k.signal_width signals)
encoded k (confirmation round) = section (head k Confirmation round)

-- the parts that a message of a profile may have
pub record IsRound (round : ℕ) : Type 0 where
  pub four_bytes : round < 2 ^ 32

pub record AreNumbers (n w : ℕ) (xs : List ℕ) : Type 0 where
  pub count : length xs ≡ n
  pub fit : AllFit w xs

pub record IsSeed (seed : List ℕ) : Type 0 where
  pub long : length seed ≡ SEED_LENGTH
  pub bytes : AllFit 8 seed

abbrev pub kind_of : Message → Kind
kind_of (offer round seed values) = Offer
kind_of (answer round values signals) = Answer
kind_of (confirmation round) = Confirmation

abbrev pub round_of : Message → ℕ
round_of (offer round seed values) = round
round_of (answer round values signals) = round
round_of (confirmation round) = round

abbrev pub HasLawfulParts : Numbers → Message → Type 0
HasLawfulParts k (offer round seed values) = IsRound round × IsSeed seed × AreNumbers k.n k.w values
HasLawfulParts k (answer round values signals) =
    IsRound round × AreNumbers k.n k.w values × AreNumbers k.n k.signal_width signals
HasLawfulParts k (confirmation round) = IsRound round
