use Rattle.std.proofs.Common.{◌≡◌, ◌≤◌}
use Rattle.profile.specs.Laws.{key_count}
use Rattle.survey.proofs.keys.count_keys.Given as goal

abbrev pub invariant-loop-x : goal.invariant-loop-x
invariant-loop-x g l =
    (l.counts.zeros ≡ key_count g.P.Profile.functions.signal g.P.Profile.functions.key_bit l.x l.coin l.signal 0)
    × (l.counts.ones ≡ key_count g.P.Profile.functions.signal g.P.Profile.functions.key_bit l.x l.coin l.signal 1)
    × (l.counts.zeros ≤ l.x)
    × (l.counts.ones ≤ l.x)
