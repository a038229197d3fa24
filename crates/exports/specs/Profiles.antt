-- What the four exported functions of a profile give, for the profile of an index.
use Rattle.std.specs.Prelude.{ℕ}
use Rattle.profile.specs.Outcomes.{round_outcome, recover_outcome, reconcile_outcome, read_outcome}
use Rattle.exports.specs.ByProfile.{by_profile}
use Rattle.exports.specs.Codes.{value_code, pair_code, no_call}

abbrev pub round_code : (profile x : ℕ) → ℕ
round_code profile x =
    by_profile (λ numbers functions. value_code (round_outcome numbers functions x)) no_call profile

abbrev pub recover_code : (profile y : ℕ) → ℕ
recover_code profile y =
    by_profile (λ numbers functions. value_code (recover_outcome numbers functions y)) no_call profile

abbrev pub reconcile_code : (profile x coin : ℕ) → ℕ
reconcile_code profile x coin =
    by_profile (λ numbers functions. pair_code (reconcile_outcome numbers functions x coin)) no_call profile

abbrev pub read_code : (profile y signal : ℕ) → ℕ
read_code profile y signal =
    by_profile (λ numbers functions. value_code (read_outcome numbers functions y signal)) no_call profile
