use Rattle.ssh_grammar.proofs.Parses.{parse-append}
use Rattle.ssh_grammar.proofs.Said.{sent_stays, control_is_sent, proxy_is_sent, nothing_more_is_sent, payloads}
use Rattle.ssh_grammar.proofs.laws.what_is_sent_by_bytes.Goals as goal

pub returns : goal.returns
returns c = record { join = parse-append; stays = sent_stays; control = control_is_sent; proxy = proxy_is_sent; nothing_more = nothing_more_is_sent; server = payloads }
