use Rattle.std.proofs.Common.{map, not, refl, arith}
use Rattle.std.proofs.lemmas.List.{length-map}
use Rattle.std.proofs.lemmas.List.Filters.{length-filter_both}
use Rattle.global_replies.specs.Replies.{kept_ask_of, is_request_of}
use Rattle.global_replies.proofs.askers.Askers.ask.Goals as goal

-- the client has at most as many as there are
pub add_one-requires : goal.add_one-requires
add_one-requires c =
    let ws = c.self.inside.waiting.items in
    let k = c.args.client in
    let both = length-filter_both (is_request_of k) (λ a. not (is_request_of k a)) (λ a. refl) (map kept_ask_of ws) in
    let all = length-map ws kept_ask_of in
    let held = c.self.invariant.counts_are k in
    let long = c.len.ensures in
    let less = c.if-len-ge-MOST_WAITING.false in
    omega (arith, both, all, held, long, less)
