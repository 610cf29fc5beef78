use Rattle.std.proofs.Common.{◌≡◌, ◌∙◌, sym, None, arith}
use Rattle.mux_outside.specs.House.{start_ask_of}
use Rattle.house_forward.specs.Asks.{turns_away}
use Rattle.house_forward.specs.Forwardings.{ComesUnless, OpensForwarding, is_new, standing, opens_of}
use Rattle.house_forward.specs.declared.asks.ImmediateOutcome.{ImmediateOutcome}
use Rattle.house_forward.proofs.Coming.{turned-away, refused-alone, by-ends, opens-there, opens-leaves, closes-there, closes-leaves, if-ok}
use Rattle.house_forward.proofs.Leaving.{closes-same, opens-most}
use Rattle.house_forward.proofs.forwarder_state.ForwarderState.asked.Goals as goal

pub returns-then-turns_away-clause-comes : goal.returns-then-turns_away-clause-comes
returns-then-turns_away-clause-comes c =
    let now = c.args.self.now in
    turned-away (turns_away c.args.client c.args.id now.asks.waiting.items) now.rules c.args.opening (start_ask_of c.args.what.now) now.forwardings.serials now.forwardings.all.items
    (sym c.turns_away.ensures ∙ c.if-turns_away.true)

pub returns-in_default-clause-comes : goal.returns-in_default-clause-comes
returns-in_default-clause-comes c =
    let now = c.args.self.now in
    refused-alone (turns_away c.args.client c.args.id now.asks.waiting.items) now.rules c.args.opening (start_ask_of c.args.what.now) now.forwardings.serials now.forwardings.all.items
    (sym c.turns_away.ensures ∙ c.if-turns_away.false) (c.in_default.ensures.exact (start_ask_of c.args.what.now) c.of_client.ensures)

pub returns-then-opening-clause-comes : goal.returns-then-opening-clause-comes
returns-then-opening-clause-comes c =
    let now = c.args.self.now in
    let ask = start_ask_of c.args.what.now in
    let fs = now.forwardings.all.items in
    let new = c.«open».new.self.all.items in
    let ends = c.in-Some.ends in
    let away = turns_away c.args.client c.args.id now.asks.waiting.items in
    if-ok (λ (asked : ImmediateOutcome). asked ≡ opens_of now.forwardings.serials ends fs (standing ends fs))
    (λ (asked : ImmediateOutcome). ComesUnless away now.rules c.args.opening ask now.forwardings.serials fs new asked)
    (OpensForwarding (is_new ends fs (standing ends fs)) ends now.forwardings.serials None fs new) c.«open».result
    (λ asked same leaves. by-ends away now.rules c.args.opening ask now.forwardings.serials fs new (sym c.turns_away.ensures ∙ c.if-turns_away.false)
    (c.in-Some.ensures.exact ask c.of_client.ensures) ends (c.in-Some.ensures.ends ask c.of_client.ensures) asked
    (opens-there c.args.opening now.forwardings.serials ends fs asked c.if-opening.true same)
    (opens-leaves c.args.opening now.forwardings.serials ends fs new c.if-opening.true leaves)) c.«open».ensures.exact c.«open».ensures.all

pub returns-else-opening-clause-comes : goal.returns-else-opening-clause-comes
returns-else-opening-clause-comes c =
    let now = c.args.self.now in
    let ask = start_ask_of c.args.what.now in
    let fs = now.forwardings.all.items in
    let new = c.close.new.self.all.items in
    by-ends (turns_away c.args.client c.args.id now.asks.waiting.items) now.rules c.args.opening ask now.forwardings.serials fs new
    (sym c.turns_away.ensures ∙ c.if-turns_away.false)
    (c.in-Some.ensures.exact ask c.of_client.ensures) c.in-Some.ends (c.in-Some.ensures.ends ask c.of_client.ensures) c.close.result
    (closes-there c.args.opening now.forwardings.serials c.in-Some.ends fs c.close.result c.if-opening.false c.close.ensures.exact)
    (closes-leaves c.args.opening now.forwardings.serials c.in-Some.ends fs new c.close.result c.if-opening.false c.close.ensures.exact c.close.ensures.all)

pub returns-else-opening-clause-listeners : goal.returns-else-opening-clause-listeners
returns-else-opening-clause-listeners c =
    rw c.close.ensures.all (closes-same c.close.result c.args.self.now.forwardings.all.items).listeners

pub returns-else-opening-clause-count : goal.returns-else-opening-clause-count
returns-else-opening-clause-count c =
    let same = (closes-same c.close.result c.args.self.now.forwardings.all.items).count in
    rw c.close.ensures.all (omega (arith, same))

pub returns-else-opening-clause-serials : goal.returns-else-opening-clause-serials
returns-else-opening-clause-serials c =
    let same = (closes-same c.close.result c.args.self.now.forwardings.all.items).count in
    let serials = c.close.ensures.others.serials in
    rw c.close.ensures.all (omega (arith, same, serials))

pub returns-then-opening-clause-listeners : goal.returns-then-opening-clause-listeners
returns-then-opening-clause-listeners c =
    let o = c.«open» in
    (opens-most o.result _ _ _ _ c.args.self.now.forwardings.all.items o.new.self.all.items o.ensures.all o.ensures.err).listeners

pub returns-then-opening-clause-count : goal.returns-then-opening-clause-count
returns-then-opening-clause-count c =
    let o = c.«open» in
    (opens-most o.result _ _ _ _ c.args.self.now.forwardings.all.items o.new.self.all.items o.ensures.all o.ensures.err).count
