-- An engine to which nothing was reported yet.
use Rattle.std.proofs.Common.{◌≡◌, ℕ, true, false, ◌||◌, [], ◌∷◌, None, refl, sym, ap, ◌∙◌, subst, cond}
use Rattle.mux_outside.specs.Streams.{among}
use Rattle.mux_history.specs.Promises.{is_empty}
use Rattle.mux_core.specs.Stands as core
use Rattle.mux_peers.specs.Among.{ArePeersApart, EachFits, is_present}
use Rattle.mux_peers.specs.Server.{ServerState, new_server}
use Rattle.mux_state.specs.State.{HasNobody, EngineState, is_here, served_in, waiting_clients, waiting_streams}
use Rattle.mux_state.specs.Stands.{BytesFit, EachReads, RowsFit, ServerReads, RepresentsSoFar}
use Rattle.mux_state.proofs.Lists.{true_false}

pub record IsStarted (s : EngineState) : Type 0 where
  pub core_stands : core.CoreRepresents s.core []
  pub server_is : s.server ≡ new_server
  pub nobody : HasNobody s
  pub listens_yet : s.listening ≡ true
  pub goes : s.ended ≡ None

not-here : (s : EngineState) (k : ℕ) → IsStarted s → is_here s k ≡ false
not-here s k h = ap (λ cs. is_present cs k || among k s.refused) h.nobody.clients ∙ ap (among k) h.nobody.refused

no-waiting : (s : EngineState) → IsStarted s → waiting_streams s ≡ []
no-waiting s h = ap (λ q. cond (is_empty q) (waiting_clients s.clients) (0 ∷ waiting_clients s.clients)) h.nobody.silent ∙ ap waiting_clients h.nobody.clients

rows-started : (s : EngineState) → IsStarted s → RowsFit 0 [] s [] []
rows-started s h = record {
  taken_is = refl;
  drawn_is = refl;
  asked_is = refl;
  fresh = tt;
  fit = record { core = λ l. h.core_stands; each = subst (EachFits []) (sym h.nobody.clients) tt; apart = subst ArePeersApart (sym h.nobody.clients) tt; up = h.nobody.silent };
  ended_is = h.goes;
  listening_is = h.listens_yet;
  waiting_is = h.nobody.waiting ∙ sym (no-waiting s h);
  leaving_are = h.nobody.leaving;
  served_are = ap served_in h.nobody.clients;
  place_is = λ l. ap (λ (v : ServerState). v.index) h.server_is;
  absent = λ k nz p q. refl;
  closed_gone = λ k q. true_false (sym q);
  refused_only = λ k q. true_false (sym q ∙ ap (among k) h.nobody.refused);
  closed_out = λ k q. true_false (sym q);
  known = λ k a. true_false (sym a);
  unentered = refl;
  server_in = refl;
}

bytes-started : (s : EngineState) → IsStarted s → BytesFit s [] [] []
bytes-started s h = record {
  are_bytes = λ t. tt;
  clients = λ l. subst (EachReads []) (sym h.nobody.clients) tt;
  server = λ l. subst (ServerReads []) (sym h.server_is) record { mode_is = refl; rest_is = refl };
  there = λ l k a p. true_false (sym a);
  strange = λ k a. record { not_here = not-here s k h; not_closed_yet = refl; no_bytes = λ nz. refl };
}

-- it represents the empty journal
pub stands-started : (s : EngineState) → IsStarted s → RepresentsSoFar [] [] s [] []
stands-started s h = record {
  asks = [];
  each = refl;
  at = λ picks replies. record { rows = rows-started s h; bytes = bytes-started s h };
}
