-- What the outcomes of a profile's functions mean, and that what is in range is accepted.
use Rattle.std.proofs.Common.{inl, inr, ℕ, ◌+◌, ◌^◌, ltb, leb, refl, ◌∙◌, arith}
use Rattle.std.proofs.lemmas.Bool.{cond-true, cond_both, lt-ltb, le-leb, ltb-true, ltb-false, leb-true, leb-false}
use Rattle.profile.specs.OutcomeLaws.{NumberMeans, ReconcileMeans, ReadMeans, FunctionLaws, FunctionsRefuseTheFirst}
use Rattle.profile.specs.Outcomes.{round_outcome, recover_outcome, reconcile_outcome, read_outcome}
use Rattle.profile.specs.Laws.{Functions}
use Rattle.profile.specs.declared.numbers.Numbers.{Numbers}

module _ (k : Numbers) (f : Functions) where
  round_means : (x : ℕ) → NumberMeans k.q x (f.round x) (round_outcome k f x)
  round_means x =
      cond_both (ltb x k.q) _ _ (NumberMeans k.q x (f.round x))
      (λ below. (ltb-true _ _ below, refl))
      (λ beyond. (ltb-false _ _ beyond, refl))

  recover_means : (y : ℕ) → NumberMeans (k.p + 1) y (f.recover y) (recover_outcome k f y)
  recover_means y =
      cond_both (leb y k.p) _ _ (NumberMeans (k.p + 1) y (f.recover y))
      (λ within. (omega (arith, leb-true _ _ within), refl))
      (λ beyond. (omega (arith, leb-false _ _ beyond), refl))

  reconcile_means : (x coin : ℕ) → ReconcileMeans k.q k.coins x coin (f.signal x coin) (f.key_bit x coin) (reconcile_outcome k f x coin)
  reconcile_means x coin =
      let Means = ReconcileMeans k.q k.coins x coin (f.signal x coin) (f.key_bit x coin) in
      cond_both (ltb x k.q) _ _ Means
      (λ below.
      cond_both (ltb coin k.coins) _ _ Means
      (λ coin_below. (ltb-true _ _ below, ltb-true _ _ coin_below, refl))
      (λ coin_beyond. (ltb-true _ _ below, ltb-false _ _ coin_beyond, refl)))
      (λ beyond. (ltb-false _ _ beyond, refl))

  read_means : (y signal : ℕ) → ReadMeans k.q k.signal_width y signal (f.read y signal) (read_outcome k f y signal)
  read_means y signal =
      let Means = ReadMeans k.q k.signal_width y signal (f.read y signal) in
      cond_both (ltb y k.q) _ _ Means
      (λ below.
      cond_both (ltb signal (2 ^ k.signal_width)) _ _ Means
      (λ fits. (ltb-true _ _ below, ltb-true _ _ fits, refl))
      (λ wide. (inr (ltb-false _ _ wide), refl)))
      (λ beyond. (inl (ltb-false _ _ beyond), refl))

  laws : FunctionLaws k f
  laws = record {
    round_means = round_means;
    recover_means = recover_means;
    reconcile_means = reconcile_means;
    read_means = read_means;
    rounds = λ x below. cond-true _ _ _ (lt-ltb x k.q below);
    recovers = λ y within. cond-true _ _ _ (le-leb y k.p within);
    reconciles = λ x coin below coin_below.
        cond-true _ _ _ (lt-ltb x k.q below) ∙ cond-true _ _ _ (lt-ltb coin k.coins coin_below);
    reads = λ y signal below fits.
        cond-true _ _ _ (lt-ltb y k.q below) ∙ cond-true _ _ _ (lt-ltb signal (2 ^ k.signal_width) fits);
  }

pub functions_refuse_the_first : FunctionsRefuseTheFirst
functions_refuse_the_first k f = laws k f
