-- No definitions: the proof of a place's law, which the source cites.
use Rattle.std.specs.Prelude.{◌≡◌, List, ℤ, Some, None, Bool, true, false, refl, if◌then◌else◌}
use Rattle.std.proofs.Common.{subst}
use Rattle.profile.specs.Places.{place_held, place_memory}
use Rattle.profile.specs.Secrets.{LawfulSecret, UnfilledOrLawful, zeros}
use Rattle.profile.specs.declared.bounds.Bounds.{Bounds}
use Rattle.profile.specs.declared.bounds.SecretBounds.{Ghosts}
use Rattle.profile.specs.declared.place.Place.{Place}

-- by whether the words are filled
by_filled : (b : Bounds) (filled : Bool) (words : List ℤ)
    → (filled ≡ true → LawfulSecret b words) → (filled ≡ false → words ≡ zeros b.n)
    → UnfilledOrLawful b (if filled then Some words else None) words
by_filled b true words lawful clear = record {
  unfilled = λ e. cc;
  lawful = λ xs e. let same : words ≡ xs = cc in subst (LawfulSecret b) same (lawful refl);
  in_words = λ xs e. cc;
}
by_filled b false words lawful clear = record {
  unfilled = λ e. clear refl;
  lawful = λ xs e. cc;
  in_words = λ xs e. cc;
}

pub place_unfilled_or_lawful : {P : Type 0} {g : Ghosts P} → (s : Place P g)
    → UnfilledOrLawful g.BOUNDS (place_held s) (place_memory s)
place_unfilled_or_lawful s = by_filled _ s.filled s.memory.words.items s.lawful s.clear
