use Rattle.std.proofs.Common.{Ok, rules}
use Rattle.ring.specs.Faults.{told}
use Rattle.message.specs.declared.kind.Kind.TheVariants.{Answer}
use Rattle.message.specs.Reading.{parts_of_answer}
use Rattle.message.proofs.ReadingLaws.{read_means}
use Rattle.message.proofs.reading.read_answer.Goals as goal

pub returns-in_err-round-clause-means : goal.returns-in_err-round-clause-means
returns-in_err-round-clause-means g c = read_means g.P.Profile.NUMBERS Answer c.args.message.now _ (λ i. (c.type_inv.message i).fits) (search rules)

pub returns-in_err-check_spare_bits-clause-means : goal.returns-in_err-check_spare_bits-clause-means
returns-in_err-check_spare_bits-clause-means g c =
    read_means g.P.Profile.NUMBERS Answer c.args.message.now _ (λ i. (c.type_inv.message i).fits) (search rules)

pub returns-clause-means : goal.returns-clause-means
returns-clause-means g c =
    let k = g.P.Profile.NUMBERS in
    let handed = told (parts_of_answer k) (Ok (record { round = c.in_ok-round.round; head = c.in_ok-head.head; values = c.in_ok-values.values; signals = c.in_ok-signals.signals })) in
    read_means k Answer c.args.message.now handed (λ i. (c.type_inv.message i).fits) (search rules)
