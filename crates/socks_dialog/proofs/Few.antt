-- How many replies a dialog has before its outcome.
use Rattle.std.proofs.Common.{◌≡◌, refl, ap, arith, ℕ, ◌≤◌, Bool, true, false, Option, Some, None, List, [], ◌∷◌, length}
use Rattle.std.specs.Prelude.{◌==◌}
use Rattle.std.specs.List.{list_any}
use Rattle.ssh_fields.specs.Fields.{take_u8, split_at}
use Rattle.socks_dialog.specs.Hosts.{dotted, grouped}
use Rattle.socks_dialog.specs.Replies.{no_authentication}
use Rattle.socks_dialog.specs.Socks.{Dialog, on, either_dialog, replying, take_port, take_text, is_for_name, name4, user4, address4, command4, socks4, end5, name5, address5, reserved5, command5, request5, methods5, version, socks}

-- ---- none

none-on : {X : Type 0} (o : Option (X × List ℕ)) (next : X → List ℕ → Dialog)
    → ((x : X) (rest : List ℕ) → (next x rest).replies ≡ []) → (on o next).replies ≡ []
none-on None next none = refl
none-on (Some p) next none = none p.0 p.1

none-either : (b : Bool) (c d : Dialog) → c.replies ≡ [] → d.replies ≡ [] → (either_dialog b c d).replies ≡ []
none-either true c d first second = first
none-either false c d first second = second

name4-none : (port : ℕ) (name : Option (List ℕ)) (rest : List ℕ) → (name4 port name rest).replies ≡ []
name4-none port None rest = refl
name4-none port (Some []) rest = refl
name4-none port (Some (byte ∷ bytes)) rest = refl

user4-none : (port : ℕ) (address : List ℕ) (user : Option (List ℕ)) (rest : List ℕ)
    → (user4 port address user rest).replies ≡ []
user4-none port address None rest = refl
user4-none port address (Some user) rest =
    none-either (is_for_name address) _ _ (none-on (take_text rest) (name4 port) (name4-none port)) refl

address4-none : (port : ℕ) (bytes : List ℕ) → (address4 port bytes).replies ≡ []
address4-none port bytes =
    none-on (split_at 4 bytes) _ (λ address rest. none-on (take_text rest) (user4 port address) (user4-none port address))

command4-none : (command : ℕ) (rest : List ℕ) → (command4 command rest).replies ≡ []
command4-none command rest =
    none-either (command == 1) _ _ (none-on (take_port rest) address4 address4-none) refl

end5-none : (host bytes : List ℕ) → (end5 host bytes).replies ≡ []
end5-none host bytes = none-on (take_port bytes) _ (λ port rest. refl)

name5-none : (size : ℕ) (rest : List ℕ) → (name5 size rest).replies ≡ []
name5-none size rest = none-either (size == 0) _ _ refl (none-on (split_at size rest) end5 end5-none)

address5-none : (kind : ℕ) (rest : List ℕ) → (address5 kind rest).replies ≡ []
address5-none kind rest =
    none-either (kind == 1) _ _
    (none-on (split_at 4 rest) _ (λ address bytes. end5-none (dotted address) bytes))
    (none-either (kind == 3) _ _ (none-on (take_u8 rest) name5 name5-none)
    (none-either (kind == 4) _ _
    (none-on (split_at 16 rest) _ (λ address bytes. end5-none (grouped address) bytes)) refl))

reserved5-none : (reserved : ℕ) (rest : List ℕ) → (reserved5 reserved rest).replies ≡ []
reserved5-none reserved rest =
    none-either (reserved == 0) _ _ (none-on (take_u8 rest) address5 address5-none) refl

command5-none : (command : ℕ) (rest : List ℕ) → (command5 command rest).replies ≡ []
command5-none command rest =
    none-either (command == 1) _ _ (none-on (take_u8 rest) reserved5 reserved5-none) refl

request5-none : (n : ℕ) (rest : List ℕ) → (request5 n rest).replies ≡ []
request5-none n rest = none-either (n == 5) _ _ (none-on (take_u8 rest) command5 command5-none) refl

-- ---- one at most

few-none : (d : Dialog) → d.replies ≡ [] → length d.replies ≤ 1
few-none d none = omega (arith, ap length none)

few-on : {X : Type 0} (o : Option (X × List ℕ)) (next : X → List ℕ → Dialog)
    → ((x : X) (rest : List ℕ) → length (next x rest).replies ≤ 1) → length (on o next).replies ≤ 1
few-on None next few = omega arith
few-on (Some p) next few = few p.0 p.1

few-either : (b : Bool) (c d : Dialog) → length c.replies ≤ 1 → length d.replies ≤ 1
    → length (either_dialog b c d).replies ≤ 1
few-either true c d first second = first
few-either false c d first second = second

few-replying : (reply : List ℕ) (d : Dialog) → d.replies ≡ [] → length (replying reply d).replies ≤ 1
few-replying reply d none = omega (arith, ap length none)

methods5-few : (methods rest : List ℕ) → length (methods5 methods rest).replies ≤ 1
methods5-few methods rest =
    few-either (list_any (λ method. method == 0) methods) _ _
    (few-replying no_authentication (on (take_u8 rest) request5) (none-on (take_u8 rest) request5 request5-none)) (omega arith)

version-few : (n : ℕ) (rest : List ℕ) → length (version n rest).replies ≤ 1
version-few n rest =
    few-either (n == 4) _ _ (few-none (socks4 rest) (none-on (take_u8 rest) command4 command4-none))
    (few-either (n == 5) _ _
    (few-on (take_u8 rest) _ (λ count bytes. few-on (split_at count bytes) methods5 methods5-few))
    (omega arith))

pub socks-few : (bytes : List ℕ) → length (socks bytes).replies ≤ 1
socks-few bytes = few-on (take_u8 bytes) version version-few
