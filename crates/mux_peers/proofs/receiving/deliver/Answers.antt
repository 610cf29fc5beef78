use Rattle.mux_peers.proofs.Amongs.{receives-none, receives-disconnect, receives-broke, notes-client, notes-none}
use Rattle.mux_peers.proofs.receiving.deliver.Goals as goal

pub returns-in-Master-clause-receives : goal.returns-in-Master-clause-receives
returns-in-Master-clause-receives c = notes-none c.args.payload.now c.args.index c.args.clients.now c.args.core.now c.heard.new.self c.args.up.now c.heard.new.up _
    (receives-none c.in_ok-heard.field-0 c.args.payload.now c.heard.new.payload c.args.index c.args.core.now c.heard.new.self c.args.clients.now.all c.args.up.now c.heard.new.up c.in-Master.is c.in_ok-heard.ensures.stands)

pub returns-in_ok-deliver-in-Client-clause-receives : goal.returns-in_ok-deliver-in-Client-clause-receives
returns-in_ok-deliver-in-Client-clause-receives c = notes-client c.in_ok-heard.field-0 c.in-Client.client c.in-Client.refusals c.args.payload.now c.heard.new.payload c.args.index c.args.core.now c.heard.new.self c.deliver.new.core c.args.clients.now c.deliver.new.self c.args.up.now c.heard.new.up c.deliver.new.up
    c.in-Client.is c.in_ok-heard.ensures.stands c.in_ok-deliver-in-Client.ensures.receives

pub returns-in-Disconnect-clause-receives : goal.returns-in-Disconnect-clause-receives
returns-in-Disconnect-clause-receives c = notes-none c.args.payload.now c.args.index c.args.clients.now c.args.core.now c.heard.new.self c.args.up.now c.heard.new.up _
    (receives-disconnect c.in_ok-heard.field-0 c.args.payload.now c.heard.new.payload c.args.index c.args.core.now c.heard.new.self c.args.clients.now.all c.args.up.now c.heard.new.up c.in-Disconnect.is c.in_ok-heard.ensures.stands)

pub returns-in-Broke-clause-receives : goal.returns-in-Broke-clause-receives
returns-in-Broke-clause-receives c = notes-none c.args.payload.now c.args.index c.args.clients.now c.args.core.now c.heard.new.self c.args.up.now c.heard.new.up _
    (receives-broke c.in_ok-heard.field-0 c.in-Broke.why c.args.payload.now c.heard.new.payload c.args.index c.args.core.now c.heard.new.self c.args.clients.now.all c.args.up.now c.heard.new.up c.in-Broke.is c.in_ok-heard.ensures.stands)
