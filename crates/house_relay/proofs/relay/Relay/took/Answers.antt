use Rattle.house_relay.proofs.Takings.{goes}
use Rattle.house_relay.proofs.relay.Relay.took.Goals as goal

pub returns-clause-stands : goal.returns-clause-stands
returns-clause-stands c = λ fits dials acts s. rw (c.took.ensures, c.takes_more.ensures.taken fits) (goes c.args.self.now c.args.n dials acts c.requires s)
