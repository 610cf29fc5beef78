use Rattle.std.proofs.Common.{[], arith}
use Rattle.mux_messages.proofs.Pairs.{hello_reads}
use Rattle.mux_messages.proofs.read.hello.Goals as goal

pub returns : goal.returns
returns c =
    let pairs = c.in_ok-skip_extensions.ensures.ok in
    (record { extensions = pairs.0; rest = [] }, hello_reads _ _ _ _ c.in_ok-version.ensures.ok (omega (arith, c.requires, c.in_ok-version.ensures.place)) pairs)
