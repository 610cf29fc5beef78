use Rattle.std.proofs.Common.{arith}
use Rattle.socks_dialog.proofs.Kept.{behind}
use Rattle.socks_dialog.proofs.dialog.put_behind.Goals as goal

pub put-end-requires : goal.put-end-requires
put-end-requires c = omega (arith, c.requires.room, c.requires.within.most)

pub returns : goal.returns
returns c =
    let b = behind c.args.room.now c.put-end.new.room c.args.bytes.now c.args.kept c.put-end.result c.count_in_dialog.result
    c.requires.room c.requires.within c.put-end.ensures.end c.put-end.ensures.bytes c.count_in_dialog.ensures.bytes c.count_in_dialog.ensures.count in
    record { exact = b.exact; within = b.kept; grows = b.grows; count = b.count; front = b.front }
