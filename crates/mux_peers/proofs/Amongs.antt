-- What the server sends to one client, among all.
use Rattle.std.proofs.Common.{◌≡◌, ℕ, Bool, true, false, ◌||◌, List, [], ◌∷◌, ◌++◌, Option, Some, None, refl, sym, ap, ◌∙◌, subst, append-nil, inl, inr, ◌⊎◌}
use Rattle.std.specs.Prelude.{◌==◌}
use Rattle.mux_outside.specs.declared.house.HouseReply.{HouseReply}
use Rattle.proxy_frames.specs.State.{QueueState}
use Rattle.mux_history.specs.declared.ended.Ended.{Ended}
use Rattle.mux_history.specs.declared.why.Why.{Why}
use Rattle.mux_history.specs.Rows.{Row, rows_of, any_of, is_run_over, is_lost, is_out, is_refusal, loses, loss_by, losses, Item, Fate, Goes, End, Heard}
use Rattle.mux_history.specs.Pending.{waiting_down}
use Rattle.mux_history.specs.Farewell.{farewell}
use Rattle.mux_history.specs.Said.{Outcome}
use Rattle.mux_history.specs.Heard.{ToClient, dest, received_for}
use Rattle.mux_history.specs.Settings.{by_lists}
use Rattle.mux_history.specs.Treat.{all_recorded, bare_row, fate_with, overflow, queued, row_of}
use Rattle.mux_history.specs.Log.{next_row}
use Rattle.mux_history.proofs.Bools.{same-number}
use Rattle.mux_history.proofs.OwnRows.{idle_row}
use Rattle.mux_history.specs.declared.broke.Break.{Break}
use Rattle.mux_history.specs.declared.ended.Ended.TheVariants as ended
use Rattle.mux_core.specs.declared.heard.Delivery as declared
use Rattle.mux_core.specs.declared.heard.Delivery.TheVariants as heard
use Rattle.mux_core.specs.State.{CoreState}
use Rattle.mux_core.specs.Stands.{look}
use Rattle.mux_core.specs.Calls.{CoreReceivesIn, CoreReceivesOn, recorded_by}
use Rattle.mux_peers.specs.State.{ClientState, ClientsState, clients_and_queue, part}
use Rattle.mux_peers.specs.Stands.{PartFits, PeerFits, standing_of}
use Rattle.mux_peers.specs.Stands as stands
use Rattle.mux_peers.specs.Receives.{ReceivesRecorded}
use Rattle.mux_peers.specs.Receivings.{ReceivedBy, ReceivesAll, ReceivesPayload, end_by}
use Rattle.mux_peers.specs.Losing.{loss_between}
use Rattle.mux_peers.specs.Among.{AllFit, ArePeersApart, ChangesOne, EachFits, ReceivesAt, ReceivesNoting, InFits, is_present}
use Rattle.mux_peers.proofs.Heards.{peer-heard}
use Rattle.mux_peers.proofs.RowForms.{made}
use Rattle.mux_peers.proofs.Receivings.{EndRow, QuietRow, ReceivedRow, IsTo, heard-client, heard-master, heard-lost, heard-disconnects, heard-broke, heard-goes, heard-next, is-to, known-admitted}
use Rattle.mux_peers.proofs.Stood.{out_is, own_row}
use Rattle.mux_peers.proofs.Mores.{parts-of}
use Rattle.mux_peers.proofs.Keeping.{keep-same}
use Rattle.mux_peers.proofs.Noted.{loss-shown, one-gives}
use Rattle.mux_peers.proofs.Ones.{apart-changed, changes-map, differs, one-moves, other-fits, unrefused-row}

-- ---- one that is neither lost nor refused is in

in-head : (a b : Bool) (own : List Row) → a ≡ false → b ≡ false → is_out own ≡ false → ((a || b) || is_out own) ≡ false
in-head true b own e f h = absurd (cc)
in-head false true own e f h = absurd (cc)
in-head false false own e f h = h

or-both : (a b : Bool) → (a || b) ≡ false → (a ≡ false) × (b ≡ false)
or-both true b e = absurd (cc)
or-both false b e = (refl, e)

not-out : (own : List Row) → is_lost own ≡ false → any_of (λ (row : Row). is_refusal row.fate) own ≡ false → is_out own ≡ false
not-out [] l r = refl
not-out (row ∷ own) l r =
    let a = or-both (loses row) (is_lost own) l in
    let b = or-both (is_refusal row.fate) (any_of (λ (row : Row). is_refusal row.fate) own) r in
    in-head (loses row) (is_refusal row.fate) own a.0 b.0 (not-out own a.1 b.1)

-- ---- the arrow: the server's payload goes to a client that is here

record ReceivedOne (p : List ℕ) (core2 : CoreState) (up2 : QueueState) (rows : List Row) (row : Row) (x y : ClientState) : Type 0 where
  here : stands.is_standing_lost x.peer.standing ≡ false
  in_rows : ReceivedRow p (part core2 y.peer up2) rows row

-- one of them that goes on so
heard-one : (pid : ℕ) (picks : List ℕ) (given : List HouseReply) (p p' : List ℕ) (k n : ℕ) (core0 core1 core2 : CoreState) (cs : List ClientState) (up up1 up2 : QueueState) (rows : List Row) (x y : ClientState)
    → AllFit rows core0 cs up → is_run_over rows ≡ false → CoreReceivesOn core0 core1 p p' up up1 (heard.Client k n) → x.peer.number ≡ k → InFits rows x → ReceivesRecorded (recorded_by (heard.Client k n) p') (part core1 x.peer up1) (part core2 y.peer up2)
    → ReceivedOne p core2 up2 rows (next_row (by_lists core0.policy pid picks given) rows (Heard p)) x y
heard-one pid picks given p p' k n core0 core1 core2 cs up up1 up2 rows x y fit live receives num f r =
    let t : IsTo core1 k n p p' up up1 rows = is-to core1 k n p p' up up1 rows (dest rows p) refl (receives rows (fit.core live)).row in
    let j : ℕ = x.peer.number in
    let lost : is_lost (rows_of j rows) ≡ false = subst (λ i. is_lost (rows_of i rows) ≡ false) (sym num) t.here in
    let in-it : stands.is_standing_lost x.peer.standing ≡ false = ap stands.is_standing_lost f.peer.standing_is ∙ (sym (out_is (rows_of j rows)) ∙ not-out (rows_of j rows) lost f.unrefused) in
    record {
      here = in-it;
      in_rows = heard-client pid picks given p p' core0 core1 x.peer (part core2 y.peer up2) up up1 n rows (record { core = fit.core; peer = f.peer; up = fit.up }) live in-it
          (subst (λ i. CoreReceivesOn core0 core1 p p' up up1 (heard.Client i n)) (sym num) receives) (subst (λ i. ReceivesRecorded (recorded_by (heard.Client i n) p') (part core1 x.peer up1) (part core2 y.peer up2)) (sym num) r);
    }

-- and is lost by it as it is noted
heard-loss : (pid : ℕ) (picks : List ℕ) (given : List HouseReply) (p p' : List ℕ) (k n : ℕ) (noted : List (ℕ × Option Why)) (core0 core1 core2 : CoreState) (cs cs' : List ClientState) (up up1 up2 : QueueState) (rows : List Row)
    → AllFit rows core0 cs up → is_run_over rows ≡ false → is_present cs k ≡ true → CoreReceivesOn core0 core1 p p' up up1 (heard.Client k n)
    → ChangesOne k (ReceivesNoting k (recorded_by (heard.Client k n) p') noted core1 core2 up1 up2) cs cs' → loss_by (next_row (by_lists core0.policy pid picks given) rows (Heard p)) ≡ noted
heard-loss pid picks given p p' k n noted core0 core1 core2 cs cs' up up1 up2 rows fit live here receives change =
    one-gives k rows (ReceivesNoting k (recorded_by (heard.Client k n) p') noted core1 core2 up1 up2) (loss_by row ≡ noted) cs cs' fit.each here
    (λ x y num f r.
    let o : ReceivedOne p core2 up2 rows row x y = heard-one pid picks given p p' k n core0 core1 core2 cs up up1 up2 rows x y fit live receives num f r.receives in
    let h : ReceivedRow p (part core2 y.peer up2) rows row = o.in_rows in
    let same : y.peer.number ≡ x.peer.number = r.receives.number in
    loss-shown p row (rows_of y.peer.number rows) x.peer.standing y.peer.standing h.item_is o.here (f.peer.standing_is ∙ ap (λ i. standing_of (rows_of i rows)) (sym same))
    (h.fits.peer.standing_is ∙ ap standing_of (own_row y.peer.number row rows h.client_is))
    ∙ (ap (loss_between x.peer.standing y.peer.standing) (h.client_is ∙ (same ∙ num)) ∙ sym r.noted_is))
    change
  where
    row : Row
    row = next_row (by_lists core0.policy pid picks given) rows (Heard p)

pub heard-among : (pid : ℕ) (picks : List ℕ) (given : List HouseReply) (p p' : List ℕ) (k n : ℕ) (core0 core1 core2 : CoreState) (cs cs' : List ClientState) (up up1 up2 : QueueState) (rows : List Row)
    → AllFit rows core0 cs up → is_run_over rows ≡ false → is_present cs k ≡ true → ArePeersApart cs' → CoreReceivesOn core0 core1 p p' up up1 (heard.Client k n)
    → ChangesOne k (λ x y. ReceivesRecorded (recorded_by (heard.Client k n) p') (part core1 x.peer up1) (part core2 y.peer up2)) cs cs'
    → AllFit (next_row (by_lists core0.policy pid picks given) rows (Heard p) ∷ rows) core2 cs' up2
heard-among pid picks given p p' k n core0 core1 core2 cs cs' up up1 up2 rows fit live here apart' receives change =
    let own : List Row = rows_of k rows in
    let o : Outcome = received_for own p in
    let row : Row = next_row (by_lists core0.policy pid picks given) rows (Heard p) in
    let t : IsTo core1 k n p p' up up1 rows = is-to core1 k n p p' up up1 rows (dest rows p) refl (receives rows (fit.core live)).row in
    let is : row ≡ row_of (Heard p) k o own = heard-next core0.policy pid picks given rows p (ToClient k) t.to in
    let mine : row.client ≡ k = ap (λ (r : Row). r.client) is ∙ (parts-of (Heard p) k o own).1 in
    let fine : is_refusal row.fate ≡ false = ap (λ (r : Row). is_refusal r.fate) is ∙ unrefused-row (Heard p) k o own (ap is_refusal (heard-goes own p)) in
    let all = one-moves k rows (row ∷ rows) (λ j ne. idle_row j row rows (ap (λ i. i == j) mine ∙ differs k j ne)) (λ x y. ReceivesRecorded (recorded_by (heard.Client k n) p') (part core1 x.peer up1) (part core2 y.peer up2)) cs cs' core2 up2 fit.each fit.apart change
    (λ x y num f r.
    let h : ReceivedRow p (part core2 y.peer up2) rows row = (heard-one pid picks given p p' k n core0 core1 core2 cs up up1 up2 rows x y fit live receives num f r).in_rows in
    let same : y.peer.number ≡ k = sym h.client_is ∙ mine in (
      record {
        nonzero = ap (λ i. i == 0) (same ∙ sym num) ∙ f.nonzero;
        peer = h.fits.peer;
        unrefused = ap (any_of (λ (r : Row). is_refusal r.fate)) (own_row y.peer.number row rows h.client_is)
            ∙ (ap (λ b. b || any_of (λ (r : Row). is_refusal r.fate) (rows_of y.peer.number rows)) fine
            ∙ (ap (λ i. any_of (λ (r : Row). is_refusal r.fate) (rows_of i rows)) (same ∙ sym num) ∙ f.unrefused));
      },
      h.fits,
    )) in
    let rest = all.rest here in
    record { core = rest.0; each = all.each; apart = apart'; up = rest.1 }

-- ---- nothing goes to a client, or the run ends

quiet-in : (k : ℕ) (p : List ℕ) (ups : List (List ℕ)) (rows : List Row) (c : ClientState) → InFits rows c → InFits (made (Heard p) k ups [] [] Goes ∷ rows) c
quiet-in k p ups rows c f = by_client (c.peer.number == k) refl
  where
    row : Row
    row = made (Heard p) k ups [] [] Goes

    by_client : (b : Bool) → (c.peer.number == k) ≡ b → InFits (made (Heard p) k ups [] [] Goes ∷ rows) c
    by_client false e = other-fits k row rows c refl e f
    by_client true e =
        let mine : rows_of c.peer.number (row ∷ rows) ≡ row ∷ rows_of c.peer.number rows = own_row c.peer.number row rows (sym (same-number c.peer.number k e)) in
        record {
          nonzero = f.nonzero;
          peer = subst (λ (own : List Row). PeerFits own c.peer.standing c.peer.queue) (sym mine) (peer-heard p k ups [] [] Goes (rows_of c.peer.number rows) c.peer.standing c.peer.standing c.peer.queue c.peer.queue tt f.peer refl (sym (append-nil c.peer.queue)));
          unrefused = ap (any_of (λ (r : Row). is_refusal r.fate)) mine ∙ f.unrefused;
        }

quiet-each : (k : ℕ) (p : List ℕ) (ups : List (List ℕ)) (rows : List Row) (cs : List ClientState) → EachFits rows cs → EachFits (made (Heard p) k ups [] [] Goes ∷ rows) cs
quiet-each k p ups rows [] f = tt
quiet-each k p ups rows (c ∷ cs) f = (quiet-in k p ups rows c f.0, quiet-each k p ups rows cs f.1)

end-each : (p : List ℕ) (cause : Ended) (rows : List Row) (cs : List ClientState) → EachFits rows cs → EachFits (made (Heard p) 0 [] [] [] (End cause) ∷ rows) cs
end-each p cause rows [] f = tt
end-each p cause rows (c ∷ cs) f = (other-fits 0 (made (Heard p) 0 [] [] [] (End cause)) rows c refl f.0.nonzero f.0, end-each p cause rows cs f.1)

pub quiet-all : (p : List ℕ) (core0 core1 : CoreState) (cs : List ClientState) (up up1 : QueueState) (rows : List Row) (row : Row) → AllFit rows core0 cs up → QuietRow p core1 up1 rows row → AllFit (row ∷ rows) core1 cs up1
quiet-all p core0 core1 cs up up1 rows row fit q = record {
  core = λ live. q.core;
  each = subst (λ (r : Row). EachFits (r ∷ rows) cs) (sym q.is) (quiet-each q.k p q.ups rows cs fit.each);
  apart = fit.apart;
  up = q.up;
}

pub end-all : (p : List ℕ) (cause : Ended) (core0 core1 : CoreState) (cs : List ClientState) (up up1 : QueueState) (rows : List Row) (row : Row) → AllFit rows core0 cs up → EndRow p up1 cause rows row → AllFit (row ∷ rows) core1 cs up1
end-all p cause core0 core1 cs up up1 rows row fit q = record {
  core = λ live. absurd (let d : true ≡ false = sym (ap (λ (r : Row). is_run_over (r ∷ rows)) q.is) ∙ live in cc);
  each = subst (λ (r : Row). EachFits (r ∷ rows) cs) (sym q.is) (end-each p cause rows cs fit.each);
  apart = fit.apart;
  up = q.up;
}

pub client-all : (pid : ℕ) (picks : List ℕ) (given : List HouseReply) (p p' : List ℕ) (k n : ℕ) (core0 core1 core2 : CoreState) (cs cs' : List ClientState) (up up1 up2 : QueueState) (rows : List Row)
    → AllFit rows core0 cs up → is_run_over rows ≡ false → is_present cs k ≡ true → CoreReceivesOn core0 core1 p p' up up1 (heard.Client k n)
    → ChangesOne k (λ x y. ReceivesRecorded (recorded_by (heard.Client k n) p') (part core1 x.peer up1) (part core2 y.peer up2)) cs cs'
    → AllFit (next_row (by_lists core0.policy pid picks given) rows (Heard p) ∷ rows) core2 cs' up2
client-all pid picks given p p' k n core0 core1 core2 cs cs' up up1 up2 rows fit live here receives change =
    heard-among pid picks given p p' k n core0 core1 core2 cs cs' up up1 up2 rows fit live here
    ((apart-changed k (λ x y. ReceivesRecorded (recorded_by (heard.Client k n) p') (part core1 x.peer up1) (part core2 y.peer up2)) (λ x y r. r.number) cs cs' change).1 fit.apart) receives change

-- ---- the core's answers

unended-with : (f : Fate) (w : Option Why) → f ≡ Goes → end_by (fate_with f w) ≡ None
unended-with f w e = ap (λ (g : Fate). end_by (fate_with g w)) e ∙ by_full w
  where
    by_full : (w : Option Why) → end_by (fate_with Goes w) ≡ None
    by_full None = refl
    by_full (Some cause) = refl

unended-row : (item : Item) (k : ℕ) (o : Outcome) (own : List Row) → o.ends ≡ Goes → end_by (row_of item k o own).fate ≡ None
unended-row item k o own e = by_loss (loses (queued (all_recorded (bare_row item k o) own) (bare_row item k o) own))
  where
    q : Row
    q = queued (all_recorded (bare_row item k o) own) (bare_row item k o) own

    fine : end_by q.fate ≡ None
    fine = unended-with o.ends (overflow (waiting_down own) (all_recorded (bare_row item k o) own)) e

    by_loss : (b : Bool) → (let row : Row = elim b as (λ _. Row) [ true ↦ record q { farewell = farewell q own } | false ↦ q ] in end_by row.fate ≡ None)
    by_loss true = fine
    by_loss false = fine

quiet-by : (p : List ℕ) (core0 core1 : CoreState) (cs : List ClientState) (up up1 : QueueState) (rows : List Row) (row : Row) → AllFit rows core0 cs up → QuietRow p core1 up1 rows row → ReceivedBy [] core1 cs up1 None rows row
quiet-by p core0 core1 cs up up1 rows row fit q = record { fit = quiet-all p core0 core1 cs up up1 rows row fit q; lost = ap (λ (r : Row). losses rows ++ loss_by r) q.is; ended_is = sym (ap (λ (r : Row). end_by r.fate) q.is) }

end-by : (p : List ℕ) (cause : Ended) (core0 core1 : CoreState) (cs : List ClientState) (up up1 : QueueState) (rows : List Row) (row : Row) → AllFit rows core0 cs up → EndRow p up1 cause rows row → ReceivedBy [] core1 cs up1 (Some cause) rows row
end-by p cause core0 core1 cs up up1 rows row fit q = record { fit = end-all p cause core0 core1 cs up up1 rows row fit q; lost = ap (λ (r : Row). losses rows ++ loss_by r) q.is; ended_is = sym (ap (λ (r : Row). end_by r.fate) q.is) }

pub receives-none : (h : declared.Delivery) (p p' : List ℕ) (index : ℕ) (core0 core1 : CoreState) (cs : List ClientState) (up up1 : QueueState) → (h ≡ heard.Master) ⊎ ((k : ℕ) × (h ≡ heard.Lost k)) → CoreReceivesOn core0 core1 p p' up up1 h → ReceivesAll p index [] core0 core1 cs cs up up1 None
receives-none h p p' index core0 core1 cs up up1 (inl e) receives pid picks given rows fit live here place =
    quiet-by p core0 core1 cs up up1 rows _ fit (heard-master pid picks given core0.policy p p' core0 core1 up up1 rows (fit.core live) fit.up (subst (λ g. CoreReceivesOn core0 core1 p p' up up1 g) e receives))
receives-none h p p' index core0 core1 cs up up1 (inr w) receives pid picks given rows fit live here place =
    quiet-by p core0 core1 cs up up1 rows _ fit (heard-lost pid picks given core0.policy p p' core0 core1 up up1 w.0 rows (fit.core live) fit.up (subst (λ g. CoreReceivesOn core0 core1 p p' up up1 g) w.1 receives))

pub receives-disconnect : (h : declared.Delivery) (p p' : List ℕ) (index : ℕ) (core0 core1 : CoreState) (cs : List ClientState) (up up1 : QueueState) → h ≡ heard.Disconnect → CoreReceivesOn core0 core1 p p' up up1 h → ReceivesAll p index [] core0 core1 cs cs up up1 (Some ended.Disconnected)
receives-disconnect h p p' index core0 core1 cs up up1 e receives pid picks given rows fit live here place =
    end-by p ended.Disconnected core0 core1 cs up up1 rows _ fit (heard-disconnects pid picks given core0.policy p p' core0 core1 up up1 rows (fit.core live) fit.up (subst (λ g. CoreReceivesOn core0 core1 p p' up up1 g) e receives))

pub receives-broke : (h : declared.Delivery) (why : Break) (p p' : List ℕ) (index : ℕ) (core0 core1 : CoreState) (cs : List ClientState) (up up1 : QueueState) → h ≡ heard.Broke why → CoreReceivesOn core0 core1 p p' up up1 h → ReceivesAll p index [] core0 core1 cs cs up up1 (Some (ended.Broke index why))
receives-broke h why p p' index core0 core1 cs up up1 e receives pid picks given rows fit live here place =
    end-by p (ended.Broke index why) core0 core1 cs up up1 rows _ fit (heard-broke pid picks given core0.policy p p' core0 core1 up up1 why index rows (fit.core live) fit.up place (subst (λ g. CoreReceivesOn core0 core1 p p' up up1 g) e receives))

receives-client : (h : declared.Delivery) (k n : ℕ) (p p' : List ℕ) (index : ℕ) (noted : List (ℕ × Option Why)) (core0 core1 core2 : CoreState) (cs cs' : List ClientState) (up up1 up2 : QueueState) → h ≡ heard.Client k n → CoreReceivesOn core0 core1 p p' up up1 h
    → (is_present cs k ≡ true → ChangesOne k (ReceivesNoting k (recorded_by (heard.Client k n) p') noted core1 core2 up1 up2) cs cs') → ReceivesAll p index noted core0 core2 cs cs' up up2 None
receives-client h k n p p' index noted core0 core1 core2 cs cs' up up1 up2 e receives change pid picks given rows fit live here place =
    let on : CoreReceivesOn core0 core1 p p' up up1 (heard.Client k n) = subst (λ g. CoreReceivesOn core0 core1 p p' up up1 g) e receives in
    let h1 : CoreReceivesIn core0 core1 p p' up up1 (heard.Client k n) rows = on rows (fit.core live) in
    let t : IsTo core1 k n p p' up up1 rows = is-to core1 k n p p' up up1 rows (dest rows p) refl h1.row in
    let present : is_present cs k ≡ true = here k (known-admitted (look rows) k core0.clients (fit.core live).clients.each h1.let_in) t.here in
    record {
      fit = client-all pid picks given p p' k n core0 core1 core2 cs cs' up up1 up2 rows fit live present on
          (changes-map k rows (ReceivesNoting k (recorded_by (heard.Client k n) p') noted core1 core2 up1 up2) (λ x y. ReceivesRecorded (recorded_by (heard.Client k n) p') (part core1 x.peer up1) (part core2 y.peer up2)) cs cs' fit.each (λ x y num f r. r.receives) (change present));
      lost = ap (λ l. losses rows ++ l) (heard-loss pid picks given p p' k n noted core0 core1 core2 cs cs' up up1 up2 rows fit live present on (change present));
      ended_is = sym (ap (λ (r : Row). end_by r.fate) (heard-next core0.policy pid picks given rows p (ToClient k) t.to) ∙ unended-row (Heard p) k (received_for (rows_of k rows) p) (rows_of k rows) (heard-goes (rows_of k rows) p));
    }

-- ---- with what is noted

pub notes-none : (p : List ℕ) (index : ℕ) (cs : ClientsState) (core core' : CoreState) (up up' : QueueState) (ended : Option Ended) → ReceivesAll p index [] core core' cs.all cs.all up up' ended → ReceivesPayload p index (clients_and_queue cs core up) (clients_and_queue cs core' up') ended
notes-none p index cs core core' up up' ended h = record { noted = []; leaves = sym (append-nil cs.leaving); receives = h; among = tt; reading = keep-same cs.all }

pub notes-client : (h : declared.Delivery) (k n : ℕ) (p p' : List ℕ) (index : ℕ) (core0 core1 core2 : CoreState) (cs cs' : ClientsState) (up up1 up2 : QueueState) → h ≡ heard.Client k n → CoreReceivesOn core0 core1 p p' up up1 h
    → ReceivesAt k (recorded_by (heard.Client k n) p') (clients_and_queue cs core1 up1) (clients_and_queue cs' core2 up2) → ReceivesPayload p index (clients_and_queue cs core0 up) (clients_and_queue cs' core2 up2) None
notes-client h k n p p' index core0 core1 core2 cs cs' up up1 up2 e receives at = record {
  noted = at.noted;
  leaves = at.leaves;
  receives = receives-client h k n p p' index at.noted core0 core1 core2 cs.all cs'.all up up1 up2 e receives at.changes;
  among = at.among;
  reading = at.reading;
}
