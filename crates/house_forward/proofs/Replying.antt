-- What holds between the forwardings before and after a reply of the server, and a request that is
-- sent.
use Rattle.std.proofs.Common.{◌≡◌, refl, ℕ, Bool, true, false, List, map, Option, Some, None}
use Rattle.std.specs.List.{position, remove}
use Rattle.house_forward.specs.Forwardings.{forwarding_changed, after_request_sent, is_listen_unanswered, is_cancelled, removed_at, replied_all}
use Rattle.house_forward.specs.declared.forwarding.Change.{Change}
use Rattle.house_forward.specs.declared.forwarding.Change.TheVariants as change
use Rattle.house_forward.specs.declared.forwarding.Forwarding.{Forwarding}
use Rattle.house_forward.specs.declared.forwarding.ForwardingRequest.{ForwardingRequest}
use Rattle.house_forward.specs.declared.forwarding.ForwardingRequest.TheVariants.{Listen, Cancel}

-- it holds where nothing changes, where one changes, and where one is gone whose request is refused or
-- whose cancel is granted
pub record HoldsOnReply (R : List Forwarding → List Forwarding → Type 0) : Type 0 where
  pub same : (fs : List Forwarding) → R fs fs
  pub changes : (c : Change) (serial : ℕ) (fs : List Forwarding) → R fs (map (forwarding_changed c serial) fs)
  pub refused : (serial : ℕ) (fs : List Forwarding) (i : ℕ) → position (is_listen_unanswered serial) fs ≡ Some i → R fs (remove fs i)
  pub granted : (serial : ℕ) (fs : List Forwarding) (i : ℕ) → position (is_cancelled serial) fs ≡ Some i → R fs (remove fs i)

pub on-outgoing : (R : List Forwarding → List Forwarding → Type 0) → HoldsOnReply R → (r : ForwardingRequest) (fs : List Forwarding)
    → R fs (after_request_sent r fs)
on-outgoing R h (Listen serial) fs = h.changes change.ForwardingRequest serial fs
on-outgoing R h (Cancel serial) fs = h.changes change.Cancel serial fs

refused-at : (R : List Forwarding → List Forwarding → Type 0) → HoldsOnReply R → (serial : ℕ) (fs : List Forwarding) (o : Option ℕ)
    → position (is_listen_unanswered serial) fs ≡ o → R fs (removed_at o fs)
refused-at R h serial fs None e = h.same fs
refused-at R h serial fs (Some i) e = h.refused serial fs i e

granted-at : (R : List Forwarding → List Forwarding → Type 0) → HoldsOnReply R → (serial : ℕ) (fs : List Forwarding) (o : Option ℕ)
    → position (is_cancelled serial) fs ≡ o → R fs (removed_at o fs)
granted-at R h serial fs None e = h.same fs
granted-at R h serial fs (Some i) e = h.granted serial fs i e

pub on-reply : (R : List Forwarding → List Forwarding → Type 0) → HoldsOnReply R → (success : Bool) (port : Option ℕ) (r : Option ForwardingRequest)
    (fs : List Forwarding) → R fs (replied_all success port r fs)
on-reply R h true port None fs = h.same fs
on-reply R h false port None fs = h.same fs
on-reply R h true port (Some (Listen serial)) fs = h.changes (change.Live port) serial fs
on-reply R h false port (Some (Listen serial)) fs = refused-at R h serial fs (position (is_listen_unanswered serial) fs) refl
on-reply R h true port (Some (Cancel serial)) fs = granted-at R h serial fs (position (is_cancelled serial) fs) refl
on-reply R h false port (Some (Cancel serial)) fs = h.changes change.Stay serial fs
