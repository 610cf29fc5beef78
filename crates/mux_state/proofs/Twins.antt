-- Journals with the same rows, bytes and clients.
use Rattle.std.proofs.Common.{◌≡◌, ℕ, Bool, true, false, List, [], ◌∷◌, ◌++◌, length, refl, sym, ap, ◌∙◌, subst, append-nil}
use Rattle.std.specs.Prelude.{◌==◌}
use Rattle.ssh_fields.specs.Fields.{AreBytes}
use Rattle.mux_outside.specs.declared.mark.Mark.{Mark}
use Rattle.mux_history.specs.declared.limits.TheConstants.{HOUSE}
use Rattle.mux_history.specs.Rows.{Row, Item, Gone, ServerFailed, Took}
use Rattle.mux_history.specs.Settings.{by_lists}
use Rattle.mux_history.specs.Log.{more_all}
use Rattle.mux_history.specs.Journal.{bytes_of, is_own_stream, log_of_journal, unless_own}
use Rattle.mux_peers.specs.State.{ClientState}
use Rattle.mux_state.specs.State.{EngineState}
use Rattle.mux_state.specs.Stands.{BytesFit, ClientReads, EachReads, IsStrange, RowsFit, ServerReads, EngineRepresents, log}
use Rattle.mux_state.proofs.Lists.{test_other}
use Rattle.mux_state.specs.Twins.{AreTwins, HouseIsClient, OwnIsSilent, StandsAlike}

reads-alike : (a b : List Mark) (cs : List ClientState) → AreTwins a b → EachReads a cs → EachReads b cs
reads-alike a b [] h each = tt
reads-alike a b (c ∷ cs) h each = (subst (λ x. ClientReads x c) (h.bytes c.peer.number) each.0, reads-alike a b cs h each.1)

bytes-alike : (s : EngineState) (a b : List Mark) (closed : List ℕ) (rows : List Row) → AreTwins a b → BytesFit s a closed rows → BytesFit s b closed rows
bytes-alike s a b closed rows h f = record {
  are_bytes = λ t. subst AreBytes (h.bytes t) (f.are_bytes t);
  clients = λ live. reads-alike a b s.clients h (f.clients live);
  server = λ live. subst (λ x. ServerReads x s.server) (h.bytes 0) (f.server live);
  there = λ live k here. f.there live k (h.accepted k ∙ here);
  strange = λ k none. let v : IsStrange s a closed k = f.strange k (h.accepted k ∙ none) in
      record { not_here = v.not_here; not_closed_yet = v.not_closed_yet; no_bytes = λ nz. sym (h.bytes k) ∙ v.no_bytes nz };
}

pub stands-alike : StandsAlike
stands-alike a b picked given s closed h st = record {
  asks = st.asks;
  each = st.each;
  at = λ picks replies.
      let v : EngineRepresents (picked ++ picks) (given ++ replies) (length picked) st.asks s a closed = st.at picks replies in
      let is : log s (picked ++ picks) (given ++ replies) a ≡ log s (picked ++ picks) (given ++ replies) b = h.log (by_lists s.core.policy s.pid (picked ++ picks) (given ++ replies)) in
      record {
        rows = subst (λ (rows : List Row). RowsFit (length picked) st.asks s closed rows) is v.rows;
        bytes = subst (λ (rows : List Row). BytesFit s b closed rows) is (bytes-alike s a b closed (log s (picked ++ picks) (given ++ replies) a) h v.bytes);
      };
}

-- ---- the forwarder as a client

nothing : (b : Bool) → [] ≡ elim b as (λ _. List ℕ) [ true ↦ [] | false ↦ [] ]
nothing true = refl
nothing false = refl

no-more : (t : ℕ) (marks : List Mark) → bytes_of t marks ++ [] ≡ bytes_of t marks ++ elim (HOUSE == t) as (λ _. List ℕ) [ true ↦ [] | false ↦ [] ]
no-more t marks = ap (λ (x : List ℕ). bytes_of t marks ++ x) (nothing (HOUSE == t))

no-bytes : (t : ℕ) (marks : List Mark) → bytes_of t marks ≡ bytes_of t marks ++ elim (HOUSE == t) as (λ _. List ℕ) [ true ↦ [] | false ↦ [] ]
no-bytes t marks = sym (append-nil (bytes_of t marks)) ∙ no-more t marks

pub house-client : HouseIsClient
house-client = record {
  let_in = λ marks. record { log = λ s. refl; bytes = λ t. no-more t marks; accepted = λ k. refl };
  says = λ marks bytes. record { log = λ s. refl; bytes = λ t. refl; accepted = λ k. refl };
  takes = λ marks bytes accepts n e. record {
    log = λ s. ap (λ (x : ℕ). more_all s (log_of_journal s marks) (Took HOUSE x ∷ [])) e;
    bytes = λ t. no-more t marks;
    accepted = λ k. refl;
  };
}

-- ---- what leaves all as it was

not-server : (t : ℕ) → is_own_stream t ≡ true → (t == 0) ≡ false
not-server t own = test_other t 0 (λ e. let no : false ≡ true = ap is_own_stream (sym e) ∙ own in cc)

own-items : (t : ℕ) (server items : List Item) → is_own_stream t ≡ true → [] ≡ elim (t == 0) as (λ _. List Item) [ true ↦ server | false ↦ unless_own t items ]
own-items t server items e = sym (ap (λ (b : Bool). elim b as (λ _. List Item) [ true ↦ server | false ↦ unless_own t items ]) (not-server t e)
    ∙ ap (λ (b : Bool). elim b as (λ _. List Item) [ true ↦ [] | false ↦ items ]) e)

pub own-silent : OwnIsSilent
own-silent = record {
  asked = λ marks client id opening ask reply. record { log = λ s. refl; bytes = λ t. no-bytes t marks; accepted = λ k. refl };
  ordered = λ marks order number. record { log = λ s. refl; bytes = λ t. no-bytes t marks; accepted = λ k. refl };
  joins = λ marks listener stream. record { log = λ s. refl; bytes = λ t. sym (append-nil (bytes_of t marks)); accepted = λ k. refl };
  ends = λ marks t own. record {
    log = λ s. ap (more_all s (log_of_journal s marks)) (own-items t _ (Gone t ∷ []) own);
    bytes = λ j. sym (append-nil (bytes_of j marks));
    accepted = λ k. refl;
  };
  fails = λ marks t own. record {
    log = λ s. ap (more_all s (log_of_journal s marks)) (own-items t (ServerFailed ∷ []) (Gone t ∷ []) own);
    bytes = λ j. sym (append-nil (bytes_of j marks));
    accepted = λ k. refl;
  };
  unwritten = λ marks t own. record {
    log = λ s. ap (more_all s (log_of_journal s marks)) (own-items t (ServerFailed ∷ []) (Gone t ∷ []) own);
    bytes = λ j. sym (append-nil (bytes_of j marks));
    accepted = λ k. refl;
  };
  takes = λ marks t bytes accepts own. record {
    log = λ s. ap (λ (b : Bool). more_all s (log_of_journal s marks) (elim b as (λ _. List Item) [ true ↦ [] | false ↦ Took t (length bytes) ∷ [] ])) (sym own);
    bytes = λ j. sym (append-nil (bytes_of j marks));
    accepted = λ k. refl;
  };
}
