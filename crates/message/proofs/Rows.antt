-- Sections in a row of bytes: one that was written there is found, and one that is found was written there.
use Rattle.std.proofs.Common.{eqb, ◌≡◌, ℕ, ◌+◌, ◌^◌, ◌<◌, ◌≤◌, Bool, true, false, cond, leb, List, [], ◌∷◌, ◌++◌, length, take, drop, Some, None, Option, sym, refl, ap, ◌∙◌, arith}
use Rattle.std.specs.Option.{option_or}
use Rattle.std.proofs.lemmas.Bool.{cond-true, eqb-true, eq-eqb, leb-true, le-leb, and_parts, and_from}
use Rattle.std.proofs.lemmas.List.{append_assoc, append-nil, length-append, length-take-le, length-drop, take_at, drop_at, drop-drop, take-append-drop, drop_all}
use Rattle.std.proofs.lemmas.List.Elements.{All-take, All-drop}
use Rattle.std.proofs.lemmas.Option.{none-some}
use Rattle.packing.specs.Packing.{number, digits, AllFit}
use Rattle.packing.proofs.Digits.{number_digits, digits_number}
use Rattle.message.specs.declared.fault.Fault.{Fault}
use Rattle.message.specs.declared.fault.Fault.TheVariants.{WrongShape}
use Rattle.message.specs.Messages.{low_first, section}
use Rattle.message.specs.Sections.{stretch}
use Rattle.message.specs.Shapes.{is_counted, section_fault, shape_fault}

-- what comes after a front
at_front : (front back : List ℕ) (at many : ℕ) → length front ≡ at → stretch at many (front ++ back) ≡ take many back
at_front front back at many long = ap (take many) (drop_at front back at long)

-- ---- a section that was written

module _ (message pre contents post : List ℕ) (at many : ℕ) (is : message ≡ pre ++ section contents ++ post) (starts : length pre ≡ at) (size : length contents ≡ many) (few : many < 2 ^ 16) where
  regrouped : message ≡ pre ++ (low_first 2 many ++ (contents ++ post))
  regrouped =
      is ∙ append_assoc pre (section contents) post
      ∙ ap (λ back. pre ++ back) (append_assoc (low_first 2 (length contents)) contents post)
      ∙ ap (λ n. pre ++ (low_first 2 n ++ (contents ++ post))) size

  after_count : message ≡ (pre ++ low_first 2 many) ++ (contents ++ post)
  after_count = regrouped ∙ sym (append_assoc pre (low_first 2 many) (contents ++ post))

  pub long_enough : at + 2 + many ≤ length message
  long_enough =
      let all = ap length after_count ∙ length-append (pre ++ low_first 2 many) (contents ++ post) in
      omega (arith, all, length-append pre (low_first 2 many), length-append contents post)

  counted : is_counted at many message ≡ true
  counted =
      let two : stretch at 2 message ≡ low_first 2 many =
      ap (stretch at 2) regrouped ∙ at_front pre (low_first 2 many ++ (contents ++ post)) at 2 starts ∙ take_at (low_first 2 many) (contents ++ post) 2 refl in
      let count : number 8 (stretch at 2 message) ≡ many = ap (number 8) two ∙ number_digits 8 2 many few in
      and_from _ _ (le-leb (at + 2) (length message) (omega (arith, long_enough))) (eq-eqb _ _ count)

  pub found : section_fault at many message ≡ None
  found = cond-true _ _ _ counted ∙ cond-true _ _ _ (le-leb (at + 2 + many) (length message) long_enough)

  pub found_here : stretch (at + 2) many message ≡ contents
  found_here =
      let front : length (pre ++ low_first 2 many) ≡ at + 2 = length-append pre (low_first 2 many) ∙ omega arith in
      ap (stretch (at + 2) many) after_count ∙ at_front (pre ++ low_first 2 many) (contents ++ post) (at + 2) many front ∙ take_at contents post many size

-- ---- a section that was found

pub both_none : (a b : Option Fault) → option_or a b ≡ None → (a ≡ None) × (b ≡ None)
both_none None b e = (refl, e)
both_none (Some x) b e = absurd (none-some x (sym e))

pub none_from_cond : (t : Bool) (fault : Fault) (rest : Option Fault) → cond t rest (Some fault) ≡ None → (t ≡ true) × (rest ≡ None)
none_from_cond true fault rest e = (refl, e)
none_from_cond false fault rest e = absurd (none-some fault (sym e))

module _ (message : List ℕ) (at many : ℕ) (fit : AllFit 8 message) (right : section_fault at many message ≡ None) where
  tests : (is_counted at many message ≡ true) × (leb (at + 2 + many) (length message) ≡ true)
  tests =
      let first = none_from_cond (is_counted at many message) (WrongShape at) (cond (leb (at + 2 + many) (length message)) None (Some (WrongShape (at + 2)))) right in
      (first.0, (none_from_cond (leb (at + 2 + many) (length message)) (WrongShape (at + 2)) None first.1).0)

  pub room : at + 2 + many ≤ length message
  room = leb-true _ _ tests.1

  pub stretch_long : length (stretch (at + 2) many message) ≡ many
  stretch_long = length-take-le many (drop (at + 2) message) (omega (arith, length-drop (at + 2) message, room))

  pub stretch_fits : AllFit 8 (stretch (at + 2) many message)
  stretch_fits = All-take (λ b. b < 2 ^ 8) many (drop (at + 2) message) (All-drop (λ b. b < 2 ^ 8) (at + 2) message fit)

  count_bytes : stretch at 2 message ≡ low_first 2 many
  count_bytes =
      let two = stretch at 2 message in
      let value : number 8 two ≡ many = eqb-true (number 8 two) many (and_parts (leb (at + 2) (length message)) (eqb (number 8 two) many) tests.0).1 in
      let long : length two ≡ 2 = length-take-le 2 (drop at message) (omega (arith, length-drop at message, room)) in
      let fits : AllFit 8 two = All-take (λ b. b < 2 ^ 8) 2 (drop at message) (All-drop (λ b. b < 2 ^ 8) at message fit) in
      sym (digits_number 8 two fits) ∙ (λ j. digits 8 (long j) (value j))

  pub written_here : drop at message ≡ section (stretch (at + 2) many message) ++ drop (at + 2 + many) message
  written_here =
      let contents = stretch (at + 2) many message in
      let rest = drop (at + 2 + many) message in
      let behind : drop 2 (drop at message) ≡ contents ++ rest =
      drop-drop 2 at message ∙ sym (take-append-drop many (drop (at + 2) message)) ∙ ap (λ r. contents ++ r) (drop-drop many (at + 2) message) in
      sym (take-append-drop 2 (drop at message))
      ∙ (λ j. count_bytes j ++ behind j)
      ∙ sym (append_assoc (low_first 2 many) contents rest)
      ∙ ap (λ n. low_first 2 n ++ contents ++ rest) (sym stretch_long)

-- nothing comes after the last section
pub ended : (at : ℕ) (message : List ℕ) → shape_fault at [] message ≡ None → drop at message ≡ []
ended at message right = drop_all at message (leb-true _ _ (none_from_cond (leb (length message) at) (WrongShape at) None right).0)

pub ends : (at : ℕ) (message : List ℕ) → length message ≡ at → shape_fault at [] message ≡ None
ends at message long = cond-true _ _ _ (le-leb (length message) at (omega arith))

-- ---- sections in a row

-- contents, each in a section
abbrev pub row : List (List ℕ) → List ℕ
row [] = []
row (c ∷ cs) = section c ++ row cs

-- three of them, as messages group them
pub three_in_a_row : (a b c : List ℕ) → section a ++ section b ++ section c ≡ row (a ∷ b ∷ c ∷ [])
three_in_a_row a b c = append_assoc (section a) (section b) (section c) ∙ ap (λ r. section a ++ (section b ++ r)) (sym (append-nil (section c)))

-- contents of these sizes
abbrev pub AreLong : (sizes : List ℕ) → List (List ℕ) → Type 0
AreLong [] [] = Unit {0}
AreLong [] (c ∷ cs) = ⊥
AreLong (many ∷ rest) [] = ⊥
AreLong (many ∷ rest) (c ∷ cs) = ((length c ≡ many) × (many < 2 ^ 16)) × AreLong rest cs

-- contents that are those of the sections of a message from an offset on
abbrev pub AreBack : (message : List ℕ) (at : ℕ) (sizes : List ℕ) → List (List ℕ) → Type 0
AreBack message at [] cs = Unit {0}
AreBack message at (many ∷ rest) [] = ⊥
AreBack message at (many ∷ rest) (c ∷ cs) = (stretch (at + 2) many message ≡ c) × AreBack message (at + 2 + many) rest cs

-- a row that was written is found
module _ (message : List ℕ) where
  next_start : (pre c : List ℕ) (at many : ℕ) → length pre ≡ at → length c ≡ many → length (pre ++ section c) ≡ at + 2 + many
  next_start pre c at many starts size = length-append pre (section c) ∙ omega arith

  pub row_right : (pre : List ℕ) (at : ℕ) (sizes : List ℕ) (cs : List (List ℕ)) → message ≡ pre ++ row cs → length pre ≡ at → AreLong sizes cs → shape_fault at sizes message ≡ None
  row_right pre at [] [] is starts long = ends at message (ap length (is ∙ append-nil pre) ∙ starts)
  row_right pre at [] (c ∷ cs) is starts long = absurd long
  row_right pre at (many ∷ rest) [] is starts long = absurd long
  row_right pre at (many ∷ rest) (c ∷ cs) is starts long =
      let grouped : message ≡ pre ++ section c ++ row cs = is ∙ sym (append_assoc pre (section c) (row cs)) in
      let later = row_right (pre ++ section c) (at + 2 + many) rest cs grouped (next_start pre c at many starts long.0.0) long.1 in
      (λ j. option_or (found message pre c (row cs) at many grouped starts long.0.0 long.0.1 j) (later j))

  pub row_back : (pre : List ℕ) (at : ℕ) (sizes : List ℕ) (cs : List (List ℕ)) → message ≡ pre ++ row cs → length pre ≡ at → AreLong sizes cs → AreBack message at sizes cs
  row_back pre at [] cs is starts long = tt
  row_back pre at (many ∷ rest) [] is starts long = absurd long
  row_back pre at (many ∷ rest) (c ∷ cs) is starts long =
      let grouped : message ≡ pre ++ section c ++ row cs = is ∙ sym (append_assoc pre (section c) (row cs)) in
      let later = row_back (pre ++ section c) (at + 2 + many) rest cs grouped (next_start pre c at many starts long.0.0) long.1 in
      (found_here message pre c (row cs) at many grouped starts long.0.0 long.0.1, later)

-- the contents of the sections that a message has from an offset on
abbrev pub contents_from : (message : List ℕ) (at : ℕ) (sizes : List ℕ) → List (List ℕ)
contents_from message at [] = []
contents_from message at (many ∷ rest) = stretch (at + 2) many message ∷ contents_from message (at + 2 + many) rest

-- each has its size, and is bytes
abbrev pub AreFound : (message : List ℕ) (at : ℕ) (sizes : List ℕ) → Type 0
AreFound message at [] = Unit {0}
AreFound message at (many ∷ rest) =
    ((length (stretch (at + 2) many message) ≡ many) × AllFit 8 (stretch (at + 2) many message)) × AreFound message (at + 2 + many) rest

-- a row that was found was written
module _ (message : List ℕ) (fit : AllFit 8 message) where
  pub row_written : (at : ℕ) (sizes : List ℕ) → shape_fault at sizes message ≡ None → drop at message ≡ row (contents_from message at sizes)
  row_written at [] right = ended at message right
  row_written at (many ∷ rest) right =
      let both = both_none (section_fault at many message) (shape_fault (at + 2 + many) rest message) right in
      written_here message at many fit both.0
      ∙ ap (λ r. section (stretch (at + 2) many message) ++ r) (row_written (at + 2 + many) rest both.1)

  pub row_found : (at : ℕ) (sizes : List ℕ) → shape_fault at sizes message ≡ None → AreFound message at sizes
  row_found at [] right = tt
  row_found at (many ∷ rest) right =
      let both = both_none (section_fault at many message) (shape_fault (at + 2 + many) rest message) right in
      ((stretch_long message at many fit both.0, stretch_fits message at many fit both.0), row_found (at + 2 + many) rest both.1)
