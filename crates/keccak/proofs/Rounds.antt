-- The loop over the rounds.
use Rattle.std.proofs.Common.{◌≡◌, ℕ, ◌+◌, List, refl, add-one}
use Rattle.keccak.specs.Permutation.{theta, rho, pi, chi, iota, one_round, rounds, keccak_f}

pub rounds_none : (s : List ℕ) → rounds 0 s ≡ s
unfolding rounds
rounds_none s = refl

pub rounds_more : (n : ℕ) (s : List ℕ) → rounds (n + 1) s ≡ iota n (chi (pi (rho (theta (rounds n s)))))
unfolding rounds one_round
rounds_more n s = rw add-one

pub rounds_all : (s : List ℕ) → keccak_f s ≡ rounds 24 s
unfolding keccak_f
rounds_all s = refl

pub ruleset round_steps = (rounds_none, rounds_more, rounds_all)
