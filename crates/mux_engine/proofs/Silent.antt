-- Marks that no row records: the engine represents the journal with them as it did before.
use Rattle.std.proofs.Common.{◌≡◌, ◌≢◌, ℕ, Bool, true, false, ◌||◌, List, [], ◌∷◌, ◌++◌, length, refl, sym, ap, ◌∙◌, subst, append-nil}
use Rattle.std.specs.Prelude.{◌==◌}
use Rattle.std.proofs.lemmas.Bool.{eq-eqb}
use Rattle.ssh_fields.specs.Fields.{AreBytes}
use Rattle.ssh_fields.proofs.Fields.{AreBytes-append}
use Rattle.mux_outside.specs.Streams.{among}
use Rattle.mux_outside.specs.declared.house.HouseReply.{HouseReply}
use Rattle.mux_outside.specs.declared.mark.Mark.{Mark}
use Rattle.mux_outside.specs.declared.mark.Mark.TheVariants.{Waits, Frees, Gets, Holds}
use Rattle.mux_outside.specs.declared.shown.Shown.{Shown}
use Rattle.mux_outside.specs.declared.turn.Want.{Want}
use Rattle.mux_history.specs.Rows.{Item, Row}
use Rattle.mux_history.specs.Log.{Setting, more_all}
use Rattle.mux_history.specs.Settings.{by_lists}
use Rattle.mux_history.specs.Journal.{bytes_of, is_own_stream, log_of_journal, new_received, new_sayings, unless_own}
use Rattle.mux_peers.specs.Among.{numbers}
use Rattle.mux_peers.specs.State.{ClientState}
use Rattle.mux_state.specs.State.{EngineState}
use Rattle.mux_state.specs.Stands.{BytesFit, ClientReads, EachReads, IsStrange, RowsFit, ServerReads, RepresentsSoFar, EngineRepresents, log}
use Rattle.mux_state.specs.Twins.{AreTwins}
use Rattle.mux_engine.proofs.Lists.{test-other, true-false}

-- ---- the wire was waited for, or a stream holds back or accepts bytes again

pub waits-alike : (waiting streams : List ℕ) (want : Want) (shown : Shown) (marks : List Mark) → AreTwins marks (Waits waiting want streams shown ∷ marks)
waits-alike waiting streams want shown marks = record { log = λ set. refl; bytes = λ t. sym (append-nil (bytes_of t marks)); accepted = λ k. refl }

pub frees-alike : (k : ℕ) (marks : List Mark) → AreTwins marks (Frees k ∷ marks)
frees-alike k marks = record { log = λ set. refl; bytes = λ t. sym (append-nil (bytes_of t marks)); accepted = λ k. refl }

pub holds-alike : (k : ℕ) (marks : List Mark) → AreTwins marks (Holds k ∷ marks)
holds-alike k marks = record { log = λ set. refl; bytes = λ t. sym (append-nil (bytes_of t marks)); accepted = λ k. refl }

-- ---- one of the master's own streams gave bytes

not-server : (k : ℕ) → is_own_stream k ≡ true → (k == 0) ≡ false
not-server k own = test-other k 0 (λ e. true-false (sym own ∙ ap is_own_stream e))

pub given-log : (set : Setting) (k : ℕ) (bytes : List ℕ) (marks : List Mark) → is_own_stream k ≡ true → log_of_journal set marks ≡ log_of_journal set (Gets k bytes ∷ marks)
given-log set k bytes marks own = sym (
    ap (λ (b : Bool). more_all set (log_of_journal set marks) (elim b as (λ _. List Item) [ true ↦ new_received (bytes_of 0 marks) (bytes_of 0 marks ++ bytes) | false ↦ unless_own k (new_sayings k (bytes_of k marks) (bytes_of k marks ++ bytes)) ])) (not-server k own)
    ∙ ap (λ (b : Bool). more_all set (log_of_journal set marks) (elim b as (λ _. List Item) [ true ↦ [] | false ↦ new_sayings k (bytes_of k marks) (bytes_of k marks ++ bytes) ])) own)

given-bytes : (k t : ℕ) (bytes : List ℕ) (marks : List Mark) → k ≢ t → bytes_of t (Gets k bytes ∷ marks) ≡ bytes_of t marks
given-bytes k t bytes marks ne = ap (λ (b : Bool). bytes_of t marks ++ elim b as (λ _. List ℕ) [ true ↦ bytes | false ↦ [] ]) (test-other k t ne) ∙ append-nil (bytes_of t marks)

given-are : (k t : ℕ) (bytes : List ℕ) (marks : List Mark) → AreBytes bytes → AreBytes (bytes_of t marks) → AreBytes (bytes_of t (Gets k bytes ∷ marks))
given-are k t bytes marks are old = by_stream (k == t)
  where
    by_stream : (b : Bool) → AreBytes (bytes_of t marks ++ elim b as (λ _. List ℕ) [ true ↦ bytes | false ↦ [] ])
    by_stream true = AreBytes-append (bytes_of t marks) bytes old are
    by_stream false = subst AreBytes (sym (append-nil (bytes_of t marks))) old

given-reads : (k : ℕ) (bytes : List ℕ) (marks : List Mark) (cs : List ClientState) → ((t : ℕ) → among t (numbers cs) ≡ true → k ≢ t) → EachReads marks cs → EachReads (Gets k bytes ∷ marks) cs
given-reads k bytes marks [] apart each = tt
given-reads k bytes marks (c ∷ cs) apart each = (
  subst (λ b. ClientReads b c) (sym (given-bytes k c.peer.number bytes marks (apart c.peer.number (ap (λ b. b || among c.peer.number (numbers cs)) (eq-eqb c.peer.number c.peer.number refl))))) each.0,
  given-reads k bytes marks cs (λ t a. apart t (later t (c.peer.number == t) a)) each.1,
)
  where
    later : (t : ℕ) (b : Bool) → among t (numbers cs) ≡ true → (b || among t (numbers cs)) ≡ true
    later t true a = refl
    later t false a = a

given-fit : (s : EngineState) (k : ℕ) (bytes : List ℕ) (marks : List Mark) (closed : List ℕ) (rows : List Row) → is_own_stream k ≡ true → AreBytes bytes → ((t : ℕ) → among t (numbers s.clients) ≡ true → k ≢ t) → BytesFit s marks closed rows → BytesFit s (Gets k bytes ∷ marks) closed rows
given-fit s k bytes marks closed rows own are apart f = record {
  are_bytes = λ t. given-are k t bytes marks are (f.are_bytes t);
  clients = λ live. given-reads k bytes marks s.clients apart (f.clients live);
  server = λ live. subst (λ x. ServerReads x s.server) (sym (given-bytes k 0 bytes marks (λ e. true-false (sym own ∙ ap is_own_stream e)))) (f.server live);
  there = λ live j a gone. f.there live j a gone;
  strange = λ j a. let v : IsStrange s marks closed j = f.strange j a in
      record { not_here = v.not_here; not_closed_yet = v.not_closed_yet; no_bytes = λ nz. given-bytes k j bytes marks (λ e. true-false (sym own ∙ (ap is_own_stream e ∙ nz.1))) ∙ v.no_bytes nz };
}

pub stands-given : (picked : List ℕ) (given : List HouseReply) (s : EngineState) (k : ℕ) (bytes : List ℕ) (marks : List Mark) (closed : List ℕ) → is_own_stream k ≡ true → AreBytes bytes → ((t : ℕ) → among t (numbers s.clients) ≡ true → k ≢ t) → RepresentsSoFar picked given s marks closed → RepresentsSoFar picked given s (Gets k bytes ∷ marks) closed
stands-given picked given s k bytes marks closed own are apart st = record {
  asks = st.asks;
  each = st.each;
  at = λ picks replies. let v : EngineRepresents (picked ++ picks) (given ++ replies) (length picked) st.asks s marks closed = st.at picks replies in
      let is : log s (picked ++ picks) (given ++ replies) marks ≡ log s (picked ++ picks) (given ++ replies) (Gets k bytes ∷ marks) = given-log (by_lists s.core.policy s.pid (picked ++ picks) (given ++ replies)) k bytes marks own in
      record {
        rows = subst (λ (rows : List Row). RowsFit (length picked) st.asks s closed rows) is v.rows;
        bytes = subst (λ (rows : List Row). BytesFit s (Gets k bytes ∷ marks) closed rows) is (given-fit s k bytes marks closed (log s (picked ++ picks) (given ++ replies) marks) own are apart v.bytes);
      };
}
