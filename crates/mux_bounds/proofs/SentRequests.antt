-- A global request that a row sends is one that the rules send.
use Rattle.std.proofs.Common.{◌≡◌, ℕ, List, [], ◌∷◌, true, false, Bool, ◌∙◌, ap, sym, subst, Ok, Err}
use Rattle.std.specs.Prelude.{Option}
use Rattle.mux_outside.specs.declared.house.HouseReply.{HouseReply}
use Rattle.ssh_grammar.specs.Messages.{Global}
use Rattle.ssh_grammar.specs.Said.{BadFraming, Body, Payload}
use Rattle.mux_history.specs.declared.why.Why.TheVariants as why
use Rattle.mux_history.specs.Controls.{client_has_greeted, house_sends, sent_body}
use Rattle.mux_history.specs.Summary.{Requests, read_summary}
use Rattle.mux_history.specs.Heard.{Breaks, Dest, Disconnects, ToClient, ToMaster, dest, received_for}
use Rattle.mux_history.specs.Log.{admits, received_row, row_of, treat}
use Rattle.mux_history.specs.Policy.{Policy}
use Rattle.mux_history.specs.Requests.{is_sent}
use Rattle.mux_history.specs.Rows.{Admit, Fate, Gone, Heard, HouseSays, Item, Row, Says, rows_of}
use Rattle.mux_history.specs.Said.{Outcome, drops, is_full_of_asks, sent_summary, sent_payload, sent_request, silent}
use Rattle.mux_history.proofs.RightLogs.{RowKnown}
use Rattle.mux_history.proofs.Sends.{as_row, row-parts}

abbrev pub flag : List (List ℕ) → Bool
flag up = elim up [ [] ↦ false | p ∷ ps ↦ true ]

abbrev pub SentRequest : Policy → List Row → Row → Type 0
SentRequest policy before row = (k : ℕ) (p : List ℕ) (given : Option HouseReply) (what : Global) (wants : Bool) → row.item ≡ Says k (Payload p) given → read_summary p ≡ Ok (Requests what wants) → is_sent row ≡ true → (row.client ≡ k) × (flag (sent_request policy k (rows_of k before) p what wants).sent ≡ true)

says-not : (policy : Policy) (row : Row) (before : List Row) → ((k : ℕ) (p : List ℕ) (given : Option HouseReply) → row.item ≡ Says k (Payload p) given → ⊥) → SentRequest policy before row
says-not policy row before never k p given what wants item reads sent = absurd (never k p given item)

summary-said : (policy : Policy) (k pick : ℕ) (own : List Row) (p : List ℕ) (what : Global) (wants : Bool) → flag (sent_summary policy k own pick p (Requests what wants)).sent ≡ true → flag (sent_request policy k own p what wants).sent ≡ true
summary-said policy k pick own p what wants sent = by_case (is_full_of_asks wants own) sent
  where
    by_case : (b : Bool) → flag (elim b as (λ _. Outcome) [ true ↦ drops (why.TooManyAsks 1024) | false ↦ sent_request policy k own p what wants ]).sent ≡ true → flag (sent_request policy k own p what wants).sent ≡ true
    by_case true sent = cc
    by_case false sent = sent

payload-said : (policy : Policy) (before : List Row) (k pick : ℕ) (p : List ℕ) (given : Option HouseReply) (fw down : List (List ℕ)) (fate : Fate) → SentRequest policy before (as_row (Says k (Payload p) given) k (sent_payload policy k (rows_of k before) pick p).sent fw down fate)
payload-said policy before k pick p given fw down fate j q other what wants item reads sent =
    let same : p ≡ q = cc in
    let client : k ≡ j = cc in
    let mine : flag (sent_request policy k (rows_of k before) p what wants).sent ≡ true = summary-said policy k pick (rows_of k before) p what wants
    (sym (ap (λ r. flag (elim r as (λ _. Outcome) [ Err bad ↦ drops (why.BadMessage bad) | Ok m ↦ sent_summary policy k (rows_of k before) pick p m ]).sent) (ap read_summary same ∙ reads)) ∙ sent) in
    (client, sym (ap (λ i. flag (sent_request policy i (rows_of i before) p what wants).sent) client ∙ ap (λ r. flag (sent_request policy j (rows_of j before) r what wants).sent) same) ∙ mine)

row-not : (policy : Policy) (before : List Row) (item : Item) (k : ℕ) (o : Outcome) → ((j : ℕ) (p : List ℕ) (given : Option HouseReply) → item ≡ Says j (Payload p) given → ⊥) → SentRequest policy before (row_of item k o (rows_of k before))
row-not policy before item k o never = row-parts (SentRequest policy before) item k o (rows_of k before) (λ fw parting down fate. says-not policy (as_row item k o.sent fw down fate) before never)

dest-said : (policy : Policy) (before : List Row) (p : List ℕ) (d : Dest) → SentRequest policy before (received_row before p d)
dest-said policy before p ToMaster = says-not policy (received_row before p ToMaster) before (λ j q given e. cc)
dest-said policy before p (ToClient k) = row-not policy before (Heard p) k (received_for (rows_of k before) p) (λ j q given e. cc)
dest-said policy before p Disconnects = says-not policy (received_row before p Disconnects) before (λ j q given e. cc)
dest-said policy before p (Breaks cause) = says-not policy (received_row before p (Breaks cause)) before (λ j q given e. cc)

treat-said : (policy : Policy) (pid pick : ℕ) (before : List Row) (item : Item) → SentRequest policy before (treat policy pid pick before item)
treat-said policy pid pick before (Admit k) = row-not policy before (Admit k) k (admits before) (λ j q given e. cc)
treat-said policy pid pick before (Says k (Payload p) given) = row-parts (SentRequest policy before) (Says k (Payload p) given) k (sent_payload policy k (rows_of k before) pick p) (rows_of k before) (λ fw parting down fate. payload-said policy before k pick p given fw down fate)
treat-said policy pid pick before (Says k (Body body) given) = row-not policy before (Says k (Body body) given) k (sent_body pid k given (client_has_greeted (rows_of k before)) body) (λ j q other e. cc)
treat-said policy pid pick before (Says k (BadFraming fault) given) = row-not policy before (Says k (BadFraming fault) given) k (drops (why.BadFrame fault)) (λ j q other e. cc)
treat-said policy pid pick before (HouseSays k id given) = row-not policy before (HouseSays k id given) k (house_sends (rows_of k before) id given) (λ j q given e. cc)
treat-said policy pid pick before (Gone k) = row-not policy before (Gone k) k silent (λ j q given e. cc)
treat-said policy pid pick before (Heard p) = dest-said policy before p (dest before p)
treat-said policy pid pick before item = says-not policy (treat policy pid pick before item) before (λ j q given e. cc)

pub row-said : (policy : Policy) (pid : ℕ) (before : List Row) (row : Row) → RowKnown policy pid before row → SentRequest policy before row
row-said policy pid before row known = subst (SentRequest policy before) known.is (treat-said policy pid known.pick before known.item)
