-- How an event may end the run.
use Rattle.std.proofs.Common.{◌≡◌, ℕ, Bool, true, false, List, [], ◌∷◌, ◌++◌, length, drop, Option, Some, None, refl, sym, ap, ◌∙◌, subst, append_assoc}
use Rattle.std.specs.Prelude.{◌==◌}
use Rattle.ssh_grammar.specs.Said.{InProxy, parse, said}
use Rattle.mux_outside.specs.declared.house_mark.HouseMark.{HouseMark as Asked}
use Rattle.mux_outside.specs.declared.house.HouseReply.{HouseReply}
use Rattle.mux_outside.specs.declared.mark.Mark.{Mark}
use Rattle.mux_outside.specs.declared.mark.Mark.TheVariants.{Gets}
use Rattle.mux_history.specs.declared.ended.Ended.{Ended}
use Rattle.mux_history.specs.declared.ended.Ended.TheVariants as ended
use Rattle.mux_history.specs.Rows.{Item, Row}
use Rattle.mux_history.specs.Settings.{by_lists}
use Rattle.mux_history.specs.Solo.{run_end_of}
use Rattle.mux_history.specs.Journal.{bytes_of, is_own_stream, log_of_journal, new_received, new_sayings, unless_own}
use Rattle.mux_history.specs.Log.{more_all}
use Rattle.mux_state.specs.declared.event.Event.{Event}
use Rattle.mux_state.specs.declared.event.Event.TheVariants as event
use Rattle.mux_state.specs.Events.{EndsBy, MayEnd, MarkRecords}
use Rattle.mux_state.specs.State.{EngineState}
use Rattle.mux_state.specs.Stands.{GoesBy, GoesOn, IsAllowed, RepresentsSoFar, log, run_setting}
use Rattle.mux_state.proofs.Kept.{did-ends, gained-pid}
use Rattle.mux_state.proofs.Stepped.{DidAlone, DidAsking, SameRun, did-goes, gained-goes, same-run}
use Rattle.mux_state.proofs.Unfailed.{NotFailed, receives-unfailed, says-unfailed}

-- ---- a piece

none-unfailed : (o : Option Ended) → o ≡ None → NotFailed o
none-unfailed o e = (λ f. let z : None ≡ Some ended.ServerFailed = sym e ∙ f in cc, λ f. let z : None ≡ Some ended.Spent = sym e ∙ f in cc, λ index f. let z : None ≡ Some (ended.StartRefused index) = sym e ∙ f in cc)

piece-unfailed : (s : EngineState) (picks : List ℕ) (replies : List HouseReply) (k : ℕ) (bytes : List ℕ) (marks : List Mark) → NotFailed (run_end_of (log s picks replies marks)) → NotFailed (run_end_of (log s picks replies (Gets k bytes ∷ marks)))
piece-unfailed s picks replies k bytes marks n = by_stream (k == 0)
  where
    rows : List Row
    rows = log s picks replies marks

    by_own : (b : Bool) → NotFailed (run_end_of (more_all (run_setting s picks replies) rows (elim b as (λ _. List Item) [ true ↦ [] | false ↦ new_sayings k (bytes_of k marks) (bytes_of k marks ++ bytes) ])))
    by_own true = n
    by_own false = says-unfailed s.core.policy s.pid picks replies k (drop (length (said (bytes_of k marks))) (said (bytes_of k marks ++ bytes))) rows n

    by_stream : (b : Bool) → NotFailed (run_end_of (more_all (run_setting s picks replies) rows (elim b as (λ _. List Item) [ true ↦ new_received (bytes_of 0 marks) (bytes_of 0 marks ++ bytes) | false ↦ unless_own k (new_sayings k (bytes_of k marks) (bytes_of k marks ++ bytes)) ])))
    by_stream true = receives-unfailed s.core.policy s.pid picks replies (drop (length (parse InProxy (bytes_of 0 marks)).says) (parse InProxy (bytes_of 0 marks ++ bytes)).says) rows n
    by_stream false = by_own (is_own_stream k)

piece-ends : (May : HouseReply → Type 0) (before recorded : Option (List Asked)) (s new : EngineState) (k : ℕ) (bytes : List ℕ) (picked : List ℕ) (given : List HouseReply) (marks : List Mark) (closed : List ℕ)
    → SameRun s new → GoesOn May before recorded s new (Gets k bytes) → RepresentsSoFar picked given s marks closed → IsAllowed s marks (Gets k bytes) → s.ended ≡ None → NotFailed new.ended
piece-ends May before recorded s new k bytes picked given marks closed same goes st al live =
    let g : GoesBy May before recorded picked given s new (Gets k bytes) marks closed = goes picked given marks closed st al in
    let p : List ℕ = (picked ++ g.picks) ++ [] in
    let r : List HouseReply = (given ++ g.replies) ++ [] in
    let was : NotFailed (run_end_of (log s p r marks)) =
    subst (λ q. NotFailed (run_end_of (log s q r marks))) (sym (append_assoc picked g.picks []))
    (subst (λ q. NotFailed (run_end_of (log s (picked ++ (g.picks ++ [])) q marks))) (sym (append_assoc given g.replies []))
    (none-unfailed (run_end_of (log s (picked ++ (g.picks ++ [])) (given ++ (g.replies ++ [])) marks)) (sym (st.at (g.picks ++ []) (g.replies ++ [])).rows.ended_is ∙ live))) in
    let is : log new p r (Gets k bytes ∷ marks) ≡ log s p r (Gets k bytes ∷ marks) =
    ap (λ q. log_of_journal (by_lists q new.pid p r) (Gets k bytes ∷ marks)) same.policy ∙ ap (λ q. log_of_journal (by_lists s.core.policy q p r) (Gets k bytes ∷ marks)) same.pid in
    subst NotFailed (sym ((g.stands.at [] []).rows.ended_is ∙ ap run_end_of is)) (piece-unfailed s p r k bytes marks was)

-- ---- each event

server-ends : (s new : EngineState) (e : Event) (mark : Mark) (picked : List ℕ) (given : List HouseReply) (marks : List Mark) (closed : List ℕ) → DidAlone s new e → MarkRecords e mark → RepresentsSoFar picked given s marks closed → IsAllowed s marks mark → s.ended ≡ None → (bytes : _) → e ≡ event.FromServer bytes → MayEnd e new.ended
server-ends s new e mark picked given marks closed d t st al live bytes is =
    let d' : DidAlone s new (event.FromServer bytes) = subst (DidAlone s new) is d in
    let m : mark ≡ Gets 0 bytes.now = subst (λ (x : Event). MarkRecords x mark) is t in
    subst (λ (x : Event). MayEnd x new.ended) (sym is)
    (piece-ends (λ reply. Unit {0}) None None s new 0 bytes.now picked given marks closed (same-run s new (event.FromServer bytes) d') (did-goes (λ reply. Unit {0}) None s new (event.FromServer bytes) (Gets 0 bytes.now) live d' refl) st (subst (IsAllowed s marks) m al) live)

pub alone-ends : (s new : EngineState) (e : Event) (mark : Mark) → DidAlone s new e → MarkRecords e mark → EndsBy e s new mark
alone-ends s new e mark d t = λ picked given marks closed st al live. did-ends s new e live d (server-ends s new e mark picked given marks closed d t st al live)

pub asking-ends : (May : HouseReply → Type 0) (before recorded : Option (List Asked)) (s new : EngineState) (e : Event) (mark : Mark) → DidAsking May before recorded s new e → MarkRecords e mark → EndsBy e s new mark
asking-ends May before recorded s new (event.FromClient k bytes) mark d t = λ picked given marks closed st al live.
    piece-ends May before recorded s new k bytes.now picked given marks closed record { pid = gained-pid May before recorded s new k bytes.now d; policy = d.policy } (gained-goes May before recorded s new k bytes.now t.0 live d) st (subst (IsAllowed s marks) t.1 al) live
asking-ends May before recorded s new e mark d t = absurd d
