use Rattle.std.proofs.Common.{rules, ◌≡◌, sym, ◌∙◌, Some, true, false}
use Rattle.std.specs.Prelude.{is_some}
use Rattle.window_ledger.specs.Stands.{IsConfirmed}
use Rattle.channel_table.specs.Entries.{number_of_own, entry_with_own}
use Rattle.mux_core.specs.Lookups.{open_waiting_for}
use Rattle.mux_core.proofs.Naming.{is-unused, is-used, named-not, own-named, own-used}
use Rattle.mux_core.proofs.SendsConfirmation.{confirms, confirms-none, confirms-used, waiting-idle}
use Rattle.mux_core.proofs.state.Core.send_confirmation.Goals as goal

pub returns-in_default-clause-stands : goal.returns-in_default-clause-stands
returns-in_default-clause-stands c = record {
  pick = 0;
  goes = λ rows st serves e. confirms-none c.args.self.now c.args.client c.args.remote c.args.sender c.args.window c.args.maximum c.args.payload.now c.args.up.now rows st (search rules) e;
}

pub returns-then-not-branch-clause-stands : goal.returns-then-not-branch-clause-stands
returns-then-not-branch-clause-stands c =
    let same = named-not c.args.self.now c.name_own.new.self c.in_ok-name_own.field-0 c.in-Some.number (entry_with_own c.args.sender) c.if-not-branch.true c.in_ok-name_own.ensures.ok in
    rw same (record {
      pick = 0;
      goes = λ rows st serves e.
          let found : open_waiting_for c.args.self.now.channels c.args.client c.args.remote ≡ Some (c.in-Some.number, c.in-Some.ledger) = search rules in
          let used : is_some (number_of_own c.args.self.now.channels c.args.client c.args.sender) ≡ true = sym (own-used c.args.self.now.channels c.args.client c.args.remote c.in-Some.number c.args.sender c.in-Some.ledger found) ∙ is-used c.in_ok-name_own.field-0 _ c.in_ok-name_own.ensures.exact c.if-not-branch.true in
          confirms-used c.args.self.now c.args.client c.args.remote c.in-Some.number c.args.sender c.args.window c.args.maximum c.in-Some.ledger c.args.payload.now c.args.up.now rows st found used e;
    })

pub returns-clause-stands : goal.returns-clause-stands
returns-clause-stands c = record {
  pick = c.in-Some.number;
  goes = λ rows st serves e.
      let found : open_waiting_for c.args.self.now.channels c.args.client c.args.remote ≡ Some (c.in-Some.number, c.in-Some.ledger) = search rules in
      let unused : is_some (number_of_own c.args.self.now.channels c.args.client c.args.sender) ≡ false = sym (own-used c.args.self.now.channels c.args.client c.args.remote c.in-Some.number c.args.sender c.in-Some.ledger found) ∙ is-unused c.in_ok-name_own.field-0 _ c.in_ok-name_own.ensures.exact c.if-not-branch.false in
      let given : IsConfirmed c.in-Some.ledger c.confirmed_ledger.result c.args.window c.args.maximum = c.confirmed_ledger.ensures.stands (waiting-idle c.args.self.now.channels c.args.client c.args.remote c.in-Some.number c.in-Some.ledger st.channels.apart found) in
      let after = own-named c.args.self.now c.name_own.new.self c.set_ledger.new.self c.in_ok-name_own.field-0 c.in-Some.number c.args.sender c.confirmed_ledger.result c.if-not-branch.false c.in_ok-name_own.ensures.ok c.set_ledger.ensures in
      rw (c.in_ok-push_payload.ensures.ok, c.put_sender.ensures) (confirms c.args.self.now c.set_ledger.new.self c.args.client c.args.remote c.in-Some.number c.args.sender c.args.window c.args.maximum c.in-Some.ledger c.confirmed_ledger.result c.args.payload.now c.args.up.now rows st serves c.requires.bytes found unused given c.confirmed_ledger.ensures.confirmed after e);
}
