-- What the master sends of its own.
use Rattle.std.proofs.Common.{◌≡◌, ℕ, List, [], true, false, sym, subst}
use Rattle.mux_history.specs.Controls.{house_sends, is_sends}
use Rattle.mux_history.specs.Heard.{Breaks, Dest, Disconnects, ToClient, ToMaster, dest, received_for}
use Rattle.mux_history.specs.Kept.{Every, ForEach, IsMasters, OwnWords}
use Rattle.mux_history.specs.Log.{admits, received_row, row_of, sent_by_client, treat}
use Rattle.mux_history.specs.Policy.{Policy}
use Rattle.mux_history.specs.Rows.{Admit, Gone, Heard, HouseSays, Item, Row, Says, rows_of}
use Rattle.mux_history.specs.Said.{Outcome, silent}
use Rattle.mux_history.proofs.Harmless.{masters-heard, masters-master}
use Rattle.mux_history.proofs.RightLogs.{LogKnown, by-treat}
use Rattle.mux_history.proofs.SentApart.{LawfulItem}
use Rattle.mux_history.proofs.Sends.{admits-sent, house-sent, row-split}

split : (before : List Row) (item : Item) (k : ℕ) (o : Outcome) → (k ≡ 0 → Every IsMasters o.sent) → (is_sends item ≡ false → Every IsMasters o.sent) → OwnWords before (row_of item k o (rows_of k before))
split before item k o nobody unsaid = row-split (OwnWords before) item k o (rows_of k before) (λ fw parting fate. record { farewell = parting; up = nobody; unsaid = unsaid })

none-sent : (ups : List (List ℕ)) → ups ≡ [] → Every IsMasters ups
none-sent ups none = subst (Every IsMasters) (sym none) tt

heard-own : (before : List Row) (p : List ℕ) (d : Dest) → OwnWords before (received_row before p d)
heard-own before p ToMaster = record { farewell = tt; up = λ none. masters-master p; unsaid = λ none. masters-master p }
heard-own before p (ToClient k) = split before (Heard p) k (received_for (rows_of k before) p) (λ none. masters-heard (rows_of k before) p) (λ none. masters-heard (rows_of k before) p)
heard-own before p Disconnects = record { farewell = tt; up = λ none. tt; unsaid = λ none. tt }
heard-own before p (Breaks cause) = record { farewell = tt; up = λ none. tt; unsaid = λ none. tt }

own-row-says : (policy : Policy) (pid pick : ℕ) (before : List Row) (item : Item) → LawfulItem before item → OwnWords before (treat policy pid pick before item)
own-row-says policy pid pick before (Admit k) lawful = split before (Admit k) k (admits before) (λ none. none-sent (admits before).sent (admits-sent before)) (λ none. none-sent (admits before).sent (admits-sent before))
own-row-says policy pid pick before (Says k outgoing given) lawful = split before (Says k outgoing given) k (sent_by_client policy pid k (rows_of k before) pick outgoing given) (λ none. absurd (lawful.0 none)) (λ says. absurd (let bad : true ≡ false = says in let h = bad in cc))
own-row-says policy pid pick before (HouseSays k id given) lawful = split before (HouseSays k id given) k (house_sends (rows_of k before) id given) (λ none. none-sent (house_sends (rows_of k before) id given).sent (house-sent (rows_of k before) id given)) (λ none. none-sent (house_sends (rows_of k before) id given).sent (house-sent (rows_of k before) id given))
own-row-says policy pid pick before (Gone k) lawful = split before (Gone k) k silent (λ none. tt) (λ none. tt)
own-row-says policy pid pick before (Heard p) lawful = heard-own before p (dest before p)
own-row-says policy pid pick before item lawful = record { farewell = tt; up = λ none. tt; unsaid = λ none. tt }

pub own-words : (policy : Policy) (pid : ℕ) (rows : List Row) → LogKnown policy pid rows → ForEach OwnWords rows
own-words policy pid rows known = by-treat OwnWords policy pid (λ pick before item good orderly lawful makes. own-row-says policy pid pick before item lawful) (λ before stream size. record { farewell = tt; up = λ none. tt; unsaid = λ none. tt }) rows known.each
