use Rattle.std.proofs.Common.{Ok, rules}
use Rattle.ring.specs.Faults.{told}
use Rattle.message.specs.declared.kind.Kind.TheVariants.{Offer}
use Rattle.message.specs.Reading.{parts_of_offer}
use Rattle.message.proofs.ReadingLaws.{read_means}
use Rattle.message.proofs.reading.read_offer.Goals as goal

pub returns-in_err-round-clause-means : goal.returns-in_err-round-clause-means
returns-in_err-round-clause-means g c = read_means g.P.Profile.NUMBERS Offer c.args.message.now _ (λ i. (c.type_inv.message i).fits) (search rules)

pub returns-clause-means : goal.returns-clause-means
returns-clause-means g c =
    let k = g.P.Profile.NUMBERS in
    let handed = told (parts_of_offer k) (Ok (record { round = c.in_ok-round.round; head = c.in_ok-head.head; seed = c.in_ok-seed.seed; values = c.in_ok-values.values })) in
    read_means k Offer c.args.message.now handed (λ i. (c.type_inv.message i).fits) (search rules)
