-- An event that is applied: how the engine goes on, and how the run may end.
use Rattle.std.proofs.Common.{◌≡◌, ◌∙◌, true, false, Option, List, Some, None, sym}
use Rattle.mux_outside.specs.declared.house_mark.HouseMark.{HouseMark as Asked}
use Rattle.mux_outside.specs.declared.house.HouseReply.{HouseReply}
use Rattle.mux_history.specs.declared.ended.Ended.{Ended}
use Rattle.mux_state.specs.declared.event.Event.{Event}
use Rattle.mux_state.specs.declared.event.Event.TheVariants as event
use Rattle.mux_state.specs.Events.{TakesIn}
use Rattle.mux_state.specs.Others.{ServerLeavesIdle}
use Rattle.mux_state.specs.State.{EngineState}
use Rattle.mux_state.proofs.Endings.{alone-ends, asking-ends}
use Rattle.mux_state.proofs.Fed.{ends-shown, fed, goes-shown}
use Rattle.mux_state.proofs.Others.{heard-leaves-idle, idle-shown, over-idle}
use Rattle.mux_state.proofs.Stepped.{DidAlone, DidAsking, asking-goes, did-goes, over-stays}

did-idle : (s new : EngineState) (e : Event) → s.ended ≡ None → DidAlone s new e → ServerLeavesIdle e s new
did-idle s new (event.FromServer bytes) live d = heard-leaves-idle s new bytes.now live d
did-idle s new (event.Accepted k) live d = tt
did-idle s new (event.FromClient k bytes) live d = tt
did-idle s new (event.ClientEnd k) live d = tt
did-idle s new (event.ClientFailed k) live d = tt
did-idle s new (event.HouseSays k id given) live d = tt
did-idle s new event.ServerEnd live d = tt
did-idle s new event.ServerFailed live d = tt

asking-idle : (May : HouseReply → Type 0) (before recorded : Option (List Asked)) (s new : EngineState) (e : Event) → DidAsking May before recorded s new e → ServerLeavesIdle e s new
asking-idle May before recorded s new (event.FromClient k bytes) d = tt
asking-idle May before recorded s new e d = absurd d

-- an event at which nothing is requested of the forwarder, and one at which it may be
pub did-takes : (May : HouseReply → Type 0) (recorded : Option (List Asked)) (s new : EngineState) (e : Event) → s.ended ≡ None → DidAlone s new e → TakesIn May recorded recorded e s new
did-takes May recorded s new e live d = record {
  stands = λ mark t. did-goes May recorded s new e mark live d t;
  others = did-idle s new e live d;
  ends = λ mark t. alone-ends s new e mark d t;
}

pub asking-takes : (May : HouseReply → Type 0) (before recorded : Option (List Asked)) (s new : EngineState) (e : Event) → s.ended ≡ None → DidAsking May before recorded s new e → TakesIn May before recorded e s new
asking-takes May before recorded s new e live d = record {
  stands = λ mark t. asking-goes May before recorded s new e mark live d t;
  others = asking-idle May before recorded s new e d;
  ends = λ mark t. asking-ends May before recorded s new e mark d t;
}

-- after the end of the run nothing changes
pub over-takes : (May : HouseReply → Type 0) (recorded : Option (List Asked)) (s : EngineState) (e : Event) (cause : Ended) → s.ended ≡ Some cause → TakesIn May recorded recorded e s s
over-takes May recorded s e cause over = record {
  stands = λ mark t. over-stays May recorded s e mark cause over t;
  others = over-idle e s;
  ends = λ mark t picked given marks closed st al live. absurd (let z : Some cause ≡ None = sym over ∙ live in cc);
}

-- as the code shows them: the parts before a step, what it is, and those after it
pub takes-shown : (May : HouseReply → Type 0) (before recorded : Option (List Asked)) (parts s parts' t : EngineState) (e : Event) → parts ≡ s → parts' ≡ t → TakesIn May before recorded e (fed true parts) t → TakesIn May before recorded e s (fed false parts')
takes-shown May before recorded parts s parts' t e is is' h = record {
  stands = λ mark m. goes-shown May before recorded parts s parts' t mark is is' (h.stands mark m);
  others = idle-shown parts s parts' t e is is' h.others;
  ends = λ mark m. ends-shown parts s parts' t e mark is is' (h.ends mark m);
}
