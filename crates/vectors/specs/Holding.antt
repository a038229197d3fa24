-- What it is for a vector to hold of the definitions.
use Rattle.std.specs.Prelude.{◌≡◌, ℕ, ◌+◌, ◌*◌, List, [], take, drop, slice_index}
use Rattle.element.specs.Products.{product}
use Rattle.keccak.specs.Sponge.{shake128}
use Rattle.byte_source.specs.Derivation.{derived}
use Rattle.byte_source.specs.Shakes.{expanded}
use Rattle.profile.specs.declared.seed.TheConstants.{SEED_LENGTH}
use Rattle.exports.specs.ByProfile.{by_profile}
use Rattle.exports.specs.Profiles.{round_code, recover_code, reconcile_code, read_code}
use Rattle.vectors.specs.declared.line.Group.{Group}
use Rattle.vectors.specs.declared.line.Group.TheVariants.{Published, Output, Product, Derived}
use Rattle.vectors.specs.declared.line.Group.TheVariants.{Rounded, Reconciled, Read}

-- number i of a line
abbrev pub number : List ℕ → ℕ → ℕ
number line i = slice_index line i

-- so many numbers of a line after its first two and those before
abbrev pub part : List ℕ → ℕ → ℕ → List ℕ
part line before many = take many (drop before (drop 2 line))

-- the element of a seed, for the profile of an index
abbrev pub element_of : (profile : ℕ) → (seed : List ℕ) → List ℕ
element_of profile seed = by_profile (λ k _. derived k.n k.q (expanded seed)) [] profile

-- the lengths of a message and its output, and the two
abbrev pub OutputHolds : List ℕ → Type 0
OutputHolds line =
    let message_length = number line 0 in
    let output_length = number line 1 in
    let message = part line 0 message_length in
    shake128 message output_length ≡ part line message_length output_length

-- n, q, two elements and their product
abbrev pub ProductHolds : List ℕ → Type 0
ProductHolds line =
    let n = number line 0 in
    let q = number line 1 in
    product n q (part line 0 n) (part line n n) ≡ part line (2 * n) n

-- a profile, n, a seed and its element
abbrev pub DerivedHolds : List ℕ → Type 0
DerivedHolds line =
    let profile = number line 0 in
    let n = number line 1 in
    element_of profile (part line 0 SEED_LENGTH) ≡ part line SEED_LENGTH n

-- a profile, a residue, its rounded value, and what that recovers to
abbrev pub RoundedHolds : List ℕ → Type 0
RoundedHolds line =
    let profile = number line 0 in
    let rounded = number line 2 in
    (round_code profile (number line 1) ≡ rounded) × (recover_code profile rounded ≡ number line 3)

-- a profile, a residue, a coin, and their signal and key bit
abbrev pub ReconciledHolds : List ℕ → Type 0
ReconciledHolds line =
    let profile = number line 0 in
    let coin = number line 2 in
    reconcile_code profile (number line 1) coin ≡ 2 * number line 3 + number line 4

-- a profile, a residue, a signal, and the key bit that is read
abbrev pub ReadHolds : List ℕ → Type 0
ReadHolds line =
    let profile = number line 0 in
    let signal = number line 2 in
    read_code profile (number line 1) signal ≡ number line 3

-- what the group of a line makes of it
abbrev pub Holds : Group → List ℕ → Type 0
Holds Published line = OutputHolds line
Holds Output line = OutputHolds line
Holds Product line = ProductHolds line
Holds Derived line = DerivedHolds line
Holds Rounded line = RoundedHolds line
Holds Reconciled line = ReconciledHolds line
Holds Read line = ReadHolds line
