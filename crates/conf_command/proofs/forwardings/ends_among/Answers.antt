use Rattle.std.proofs.Common.{◌++◌, ◌∷◌, ◌∙◌, ap}
use Rattle.conf_command.specs.Parts.{words_of_one_end, words_of_two_ends}
use Rattle.conf_command.proofs.PartLemmas.{one_part, two_parts, three_parts, four_parts, no_parts, many_parts, same-ok}
use Rattle.conf_command.proofs.forwardings.ends_among.Goals as goal

pub returns-in_ok-copy-in-len1 : goal.returns-in_ok-copy-in-len1
returns-in_ok-copy-in-len1 c =
    let e = one_part c.args.one c.args.two c.args.parts.now c.port-item.result c.in-len1.len_at_least c.in-len1.len_below c.port-item.is in
    same-ok c.one_end.result _ _ (ap (words_of_one_end c.args.one) (c.in_ok-copy-in-len1.ensures ∙ c.as_bytes.ensures) ∙ e) c.one_end.ensures

pub returns-in_ok-joined-in-len2 : goal.returns-in_ok-joined-in-len2
returns-in_ok-joined-in-len2 c =
    let e = two_parts c.args.one c.args.two c.args.parts.now c.bind-item.result c.port-item-then-parts-lt3.result c.in-len2.len_at_least c.in-len2.len_below c.bind-item.is c.port-item-then-parts-lt3.is in
    let whole = rw (c.as_bytes-in-len2.ensures, c.as_bytes-in-len2-2.ensures) at c.in_ok-joined-in-len2.ensures in
    same-ok c.one_end-in-len2.result _ _ (ap (words_of_one_end c.args.one) whole ∙ e) c.one_end-in-len2.ensures

pub returns-in_ok-connect-in-len3 : goal.returns-in_ok-connect-in-len3
returns-in_ok-connect-in-len3 c =
    let e = three_parts c.args.one c.args.two c.args.parts.now c.port-item-then-parts-lt4.result c.host-item.result c.to-item.result c.in-len3.len_at_least c.in-len3.len_below c.port-item-then-parts-lt4.is c.host-item.is c.to-item.is in
    let connect = rw (c.as_bytes-in-len3-2.ensures, c.as_bytes-in-len3-3.ensures) at c.in_ok-connect-in-len3.ensures in
    let listen = c.in_ok-listen-in-len3.ensures ∙ c.as_bytes-in-len3.ensures in
    same-ok c.two_ends.result _ _ (ap (λ l. words_of_two_ends c.args.two l c.in_ok-connect-in-len3.connect) listen ∙ (ap (words_of_two_ends c.args.two c.port-item-then-parts-lt4.result) connect ∙ e)) c.two_ends.ensures

pub returns-in_ok-connect-in-len4 : goal.returns-in_ok-connect-in-len4
returns-in_ok-connect-in-len4 c =
    let e = four_parts c.args.one c.args.two c.args.parts.now c.bind-item-then-parts-lt5.result c.port-item-then-parts-lt5.result c.host-item-then-parts-lt5.result c.to-item-then-parts-lt5.result c.in-len4.len_at_least c.in-len4.len_below c.bind-item-then-parts-lt5.is c.port-item-then-parts-lt5.is c.host-item-then-parts-lt5.is c.to-item-then-parts-lt5.is in
    let connect = rw (c.as_bytes-in-len4-3.ensures, c.as_bytes-in-len4-4.ensures) at c.in_ok-connect-in-len4.ensures in
    let listen = rw (c.as_bytes-in-len4.ensures, c.as_bytes-in-len4-2.ensures) at c.in_ok-listen-in-len4.ensures in
    same-ok c.two_ends-in-len4.result _ _ (ap (λ l. words_of_two_ends c.args.two l c.in_ok-connect-in-len4.connect) listen ∙ (ap (words_of_two_ends c.args.two (c.bind-item-then-parts-lt5.result ++ 58 ∷ c.port-item-then-parts-lt5.result)) connect ∙ e)) c.two_ends-in-len4.ensures

pub returns-in-len5-up : goal.returns-in-len5-up
returns-in-len5-up c = many_parts c.args.one c.args.two c.args.parts.now c.in-len5-up.len_at_least

pub returns-in-empty : goal.returns-in-empty
returns-in-empty c = no_parts c.args.one c.args.two c.args.parts.now c.in-empty.len_below
