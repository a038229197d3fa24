use Rattle.profile.proofs.Secrets.{fill_means, lawful_fills}
use Rattle.profile.proofs.secret.fill_refuses_the_first.Goals as goal

pub returns : goal.returns
returns c = record { refuses = fill_means; accepts = lawful_fills }
