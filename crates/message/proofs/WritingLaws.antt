-- What each outcome of writing says of the parts and of the room, and that what fits is accepted.
use Rattle.std.proofs.Common.{◌≡◌, ℕ, ◌+◌, ◌^◌, eqb, List, length, inl, inr, Ok, Err, Result, sym, refl, ◌∙◌, subst}
use Rattle.std.specs.Prelude.{◌≢◌}
use Rattle.std.proofs.lemmas.Bool.{cond-true, cond_both, eq-eqb, eqb-true, eqb-false}
use Rattle.ring.specs.Elements.{AllBelow}
use Rattle.ring.specs.Faults.{checked}
use Rattle.ring.specs.declared.fault.Fault.{Fault}
use Rattle.ring.specs.declared.fault.Fault.TheVariants.{WrongLength}
use Rattle.ring.specs.declared.place.TheConstants.{OUTPUT, SIGNALS, VALUES}
use Rattle.ring.proofs.Elements.{all_below_passes, fits_or_first}
use Rattle.profile.specs.declared.numbers.Numbers.{Numbers}
use Rattle.message.specs.Lengths.{offer_length, answer_length, confirmation_length}
use Rattle.message.specs.Messages.{Message, offer, answer, confirmation}
use Rattle.message.specs.Writing.{check_fit, write_outcome}
use Rattle.message.specs.WritingLaws.{WriteMeans, WritingAcceptsWhatFits}

-- a length is what it has to be, or it is not
right_or_wrong : (P : Result (Unit {0}) Fault → Type 0) (long right place : ℕ) (rest : Result (Unit {0}) Fault) → (long ≡ right → P rest) → (long ≢ right → P (Err (WrongLength place))) → P (checked (eqb long right) (WrongLength place) rest)
right_or_wrong P long right place rest same other = cond_both (eqb long right) _ _ P (λ is. same (eqb-true _ _ is)) (λ not. other (eqb-false _ _ not))

right_passes : (long right place : ℕ) (rest : Result (Unit {0}) Fault) → long ≡ right → checked (eqb long right) (WrongLength place) rest ≡ rest
right_passes long right place rest is = cond-true _ _ _ (eq-eqb long right is)

fit_passes : (n w : ℕ) (place : ℕ → ℕ) (xs : List ℕ) (rest : Result (Unit {0}) Fault) → length xs ≡ n → AllBelow (2 ^ w) xs → check_fit n w place xs rest ≡ rest
fit_passes n w place xs rest long fit = cond-true _ _ _ (all_below_passes (2 ^ w) n xs long fit)

-- ---- what each outcome says

pub write_means : (k : Numbers) (m : Message) (room : ℕ) → WriteMeans k m room (write_outcome k m room)
write_means k (offer round seed values) room =
    let Means = WriteMeans k (offer round seed values) room in
    right_or_wrong Means (length values) k.n VALUES _
    (λ v. right_or_wrong Means room (offer_length k) OUTPUT _
    (λ r. fits_or_first k.n (2 ^ k.w) values v Means _ _
    (λ fit. ((v, r), fit))
    (λ first. ((v, r), first)))
    (λ r. inr (v, refl, r)))
    (λ v. inl (refl, v))
write_means k (answer round values signals) room =
    let Means = WriteMeans k (answer round values signals) room in
    right_or_wrong Means (length values) k.n VALUES _
    (λ v. right_or_wrong Means (length signals) k.n SIGNALS _
    (λ s. right_or_wrong Means room (answer_length k) OUTPUT _
    (λ r. fits_or_first k.n (2 ^ k.w) values v Means _ _
    (λ v_fit. fits_or_first k.n (2 ^ k.signal_width) signals s Means _ _
    (λ s_fit. ((v, s, r), (v_fit, s_fit)))
    (λ first. ((v, s, r), inr (v_fit, (_, refl, first)))))
    (λ first. ((v, s, r), inl first)))
    (λ r. inr (v, inr (s, refl, r))))
    (λ s. inr (v, inl (refl, s))))
    (λ v. inl (refl, v))
write_means k (confirmation round) room =
    right_or_wrong (WriteMeans k (confirmation round) room) room confirmation_length OUTPUT (Ok tt) (λ r. (r, tt)) (λ r. (refl, r))

-- the same of an outcome that is that of writing
pub written_means : (k : Numbers) (m : Message) (room : ℕ) (result : Result (Unit {0}) Fault) → result ≡ write_outcome k m room → WriteMeans k m room result
written_means k m room result is = subst (WriteMeans k m room) (sym is) (write_means k m room)

-- ---- what is accepted

pub accepts_what_fits : WritingAcceptsWhatFits
accepts_what_fits k (offer round seed values) room lengths fit =
    right_passes (length values) k.n VALUES _ lengths.0
    ∙ right_passes room (offer_length k) OUTPUT _ lengths.1
    ∙ fit_passes k.n k.w (λ i. i) values (Ok tt) lengths.0 fit
accepts_what_fits k (answer round values signals) room lengths fit =
    right_passes (length values) k.n VALUES _ lengths.0
    ∙ right_passes (length signals) k.n SIGNALS _ lengths.1
    ∙ right_passes room (answer_length k) OUTPUT _ lengths.2
    ∙ fit_passes k.n k.w (λ i. i) values _ lengths.0 fit.0
    ∙ fit_passes k.n k.signal_width (λ i. k.n + i) signals (Ok tt) lengths.1 fit.1
accepts_what_fits k (confirmation round) room lengths fit = right_passes room confirmation_length OUTPUT (Ok tt) lengths
