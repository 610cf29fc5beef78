use Rattle.std.proofs.Common.{refl}
use Rattle.mux_client.proofs.ForwardFrames.{written}
use Rattle.mux_client.proofs.request.put_forward.Goals as goal

pub returns : goal.returns
returns c =
    written _ _ _ _ _ _ _ _ _ c.args.opening c.args.id _ _ c.args.ask.now _ _
    c.as_bytes-listen_host.ensures c.as_bytes-connect_host.ensures refl c.kind_of.ensures
    c.in_ok-put_u32.ensures.ok c.in_ok-put_u32-2.ensures.ok c.in_ok-put_u32-3.ensures.ok
    c.in_ok-put_u32-4.ensures.ok c.in_ok-put_string.ensures.ok c.in_ok-put_u32-5.ensures.ok
    c.in_ok-put_string-2.ensures.ok c.in_ok-put_u32-6.ensures.ok
