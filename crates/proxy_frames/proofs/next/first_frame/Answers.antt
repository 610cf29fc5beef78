-- A length in range, and what follows it.
use Rattle.std.proofs.Common.{arith, ◌≡◌, ◌∙◌, ap, sym, Some}
use Rattle.ssh_fields.specs.Fields.{take_u32}
use Rattle.proxy_frames.proofs.Fronts.{front-control, front-proxy}
use Rattle.proxy_frames.proofs.next.first_frame.Goals as goal

pub returns-in-Control-clause-front : goal.returns-in-Control-clause-front
returns-in-Control-clause-front c =
    let reads : take_u32 c.args.bytes.now ≡ Some (c.in-Some.length, c.take_u32.new.self) = ap take_u32 (sym c.new-fields.ensures) ∙ c.in-Some.ensures.ok in
    front-control c.args.framing c.args.bytes.now c.in-Some.length c.take_u32.new.self c.content.result reads c.in-Control.is (omega (arith, c.least.ensures)) (omega arith) c.content.ensures

pub returns-in-Some-eq0-clause-front : goal.returns-in-Some-eq0-clause-front
returns-in-Some-eq0-clause-front c =
    let reads : take_u32 c.args.bytes.now ≡ Some (c.in-Some.length, c.take_u32.new.self) = ap take_u32 (sym c.new-fields.ensures) ∙ c.in-Some.ensures.ok in
    front-proxy c.args.framing c.args.bytes.now c.in-Some.length c.take_u32.new.self c.in-Some-eq0.field-0 c.take_u8.new.self c.content-in-Some-eq0.result reads c.in-Proxy.is (omega (arith, c.least.ensures)) (omega arith) c.in-Some-eq0.ensures.ok c.in-Some-eq0.field-0-test c.content-in-Some-eq0.ensures
