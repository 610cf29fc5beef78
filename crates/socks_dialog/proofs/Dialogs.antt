-- Dialogs read field by field: what bytes after them change, and which bytes they are.
use Rattle.std.proofs.Common.{◌≡◌, ◌≢◌, inl, inr, ◌∙◌, refl, sym, ap, subst, arith, ℕ, ◌+◌, ◌<◌, ◌≤◌, List, [], ◌∷◌, ◌++◌, length, Option, Some, None, Bool, true, false, append_assoc, length-append}
use Rattle.std.specs.Prelude.{◌==◌}
use Rattle.std.specs.List.{list_any}
use Rattle.std.proofs.lemmas.List.{append-nil}
use Rattle.ssh_fields.specs.Fields.{AreBytes, take_u8, split_at}
use Rattle.ssh_fields.proofs.Fields.{AreBytes-behind, value_and_rest}
use Rattle.socks_dialog.specs.Hosts.{dotted, grouped}
use Rattle.socks_dialog.specs.Replies.{refused4, no_authentication, no_method, reply5, general_failure, unknown_command, unknown_address}
use Rattle.socks_dialog.specs.Socks.{Dialog, dialog_connects, breaks, replying, either_dialog, on, take_port, take_text, name4, is_for_name, user4, address4, command4, socks4, end5, name5, address5, reserved5, command5, request5, methods5, socks5, version, socks}
use Rattle.socks_dialog.specs.Laws.{followed}
use Rattle.socks_dialog.specs.declared.outcome.Outcome.TheVariants.{Wants, Connects, Breaks}
use Rattle.socks_dialog.proofs.Fields.{Stands, IsField, u8-field, port-field, bytes-field, text-field}

-- without the bytes after it
abbrev pub ended : Dialog → Dialog
ended d = record { replies = d.replies; outcome = d.outcome; rest = [] }

-- the replies of one dialog are the first ones of another
pub record Grows (d e : Dialog) : Type 0 where
  pub later : List (List ℕ)
  pub is : e.replies ≡ d.replies ++ later

-- the bytes that a dialog is
pub record Front (f : List ℕ → Dialog) (a : List ℕ) : Type 0 where
  pub front : List ℕ
  pub whole : a ≡ front ++ (f a).rest
  pub alone : f front ≡ ended (f a)
  pub wanting : (f a).outcome ≡ Wants → (f a).rest ≡ []

-- a reading that doesn't look past what it reads
pub record IsParse (f : List ℕ → Dialog) : Type 0 where
  pub stays : (a more : List ℕ) → (f a).outcome ≢ Wants → f (a ++ more) ≡ followed more (f a)
  pub grows : (a more : List ℕ) → Grows (f a) (f (a ++ more))
  pub front : (a : List ℕ) → Front f a

not_breaks : (reply : List ℕ) → Breaks reply ≡ Wants → ⊥
not_breaks reply e = cc

not_connects : (host : List ℕ) (port : ℕ) → Connects host port ≡ Wants → ⊥
not_connects host port e = cc

pub parse-breaks : (reply : List ℕ) → IsParse (breaks reply)
parse-breaks reply = record {
  stays = λ a more ne. refl;
  grows = λ a more. record { later = []; is = refl };
  front = λ a. record { front = []; whole = refl; alone = refl; wanting = λ e. absurd (not_breaks reply e) };
}

pub parse-connects : (host : List ℕ) (port : ℕ) → IsParse (dialog_connects host port)
parse-connects host port = record {
  stays = λ a more ne. refl;
  grows = λ a more. record { later = []; is = refl };
  front = λ a. record { front = []; whole = refl; alone = refl; wanting = λ e. absurd (not_connects host port e) };
}

pub parse-replying : (reply : List ℕ) (f : List ℕ → Dialog) → IsParse f → IsParse (λ a. replying reply (f a))
parse-replying reply f p = record {
  stays = λ a more ne. ap (replying reply) (p.stays a more ne);
  grows = λ a more. record { later = (p.grows a more).later; is = ap (λ r. reply ∷ r) (p.grows a more).is };
  front = λ a. record {
    front = (p.front a).front;
    whole = (p.front a).whole;
    alone = ap (replying reply) (p.front a).alone;
    wanting = (p.front a).wanting;
  };
}

pub parse-either : (b : Bool) (f g : List ℕ → Dialog) → IsParse f → IsParse g
    → IsParse (λ a. either_dialog b (f a) (g a))
parse-either true f g p q = p
parse-either false f g p q = q

-- a field first
pub parse-on : (X : Type 0) (g : List ℕ → Option (X × List ℕ)) (n : ℕ) (next : X → List ℕ → Dialog)
    → IsField X g n → ((x : X) → IsParse (next x)) → IsParse (λ a. on (g a) next)
parse-on X g n next field parses = record { stays = stays-on; grows = grows-on; front = front-on }
  where
    first : (a : List ℕ) (s : Stands X g n a) → g a ≡ Some (s.x, s.rest)
    first a s = ap g s.whole ∙ s.reads s.rest

    first_of : (a more : List ℕ) (s : Stands X g n a) → g (a ++ more) ≡ Some (s.x, s.rest ++ more)
    first_of a more s =
        ap (λ b. g (b ++ more)) s.whole ∙ ap g (append_assoc s.front s.rest more) ∙ s.reads (s.rest ++ more)

    stays-on : (a more : List ℕ) → (on (g a) next).outcome ≢ Wants
        → on (g (a ++ more)) next ≡ followed more (on (g a) next)
    stays-on a more ne = elim (field a) [
      | inl h ↦ absurd (ne (ap (λ o. (on o next).outcome) h.0))
      | inr s ↦ ap (λ o. on o next) (first_of a more s)
          ∙ (parses s.x).stays s.rest more (λ e. ne (ap (λ o. (on o next).outcome) (first a s) ∙ e))
          ∙ ap (λ o. followed more (on o next)) (sym (first a s))
    ]

    grows-on : (a more : List ℕ) → Grows (on (g a) next) (on (g (a ++ more)) next)
    grows-on a more = elim (field a) [
      | inl h ↦ record {
        later = (on (g (a ++ more)) next).replies;
        is = ap (λ o. (on o next).replies ++ (on (g (a ++ more)) next).replies) (sym h.0);
      }
      | inr s ↦ record {
        later = ((parses s.x).grows s.rest more).later;
        is = ap (λ o. (on o next).replies) (first_of a more s)
            ∙ ((parses s.x).grows s.rest more).is
            ∙ ap (λ o. (on o next).replies ++ ((parses s.x).grows s.rest more).later) (sym (first a s));
      }
    ]

    front-on : (a : List ℕ) → Front (λ a. on (g a) next) a
    front-on a = elim (field a) [
      | inl h ↦ record {
        front = a;
        whole = sym (append-nil a) ∙ ap (λ o. a ++ (on o next).rest) (sym h.0);
        alone = ap (λ o. on o next) h.0 ∙ ap (λ o. ended (on o next)) (sym h.0);
        wanting = λ e. ap (λ o. (on o next).rest) h.0;
      }
      | inr s ↦ record {
        front = s.front ++ ((parses s.x).front s.rest).front;
        whole = s.whole ∙ ap (λ r. s.front ++ r) ((parses s.x).front s.rest).whole
            ∙ sym (append_assoc s.front ((parses s.x).front s.rest).front (next s.x s.rest).rest)
            ∙ ap (λ o. (s.front ++ ((parses s.x).front s.rest).front) ++ (on o next).rest) (sym (first a s));
        alone = ap (λ o. on o next) (s.reads ((parses s.x).front s.rest).front)
            ∙ ((parses s.x).front s.rest).alone
            ∙ ap (λ o. ended (on o next)) (sym (first a s));
        wanting = λ e. ap (λ o. (on o next).rest) (first a s)
            ∙ ((parses s.x).front s.rest).wanting (ap (λ o. (on o next).outcome) (sym (first a s)) ∙ e);
      }
    ]

-- ---- the parts of a dialog

on_u8 : (next : ℕ → List ℕ → Dialog) → ((x : ℕ) → IsParse (next x)) → IsParse (λ a. on (take_u8 a) next)
on_u8 next p = parse-on ℕ take_u8 1 next u8-field p

on_port : (next : ℕ → List ℕ → Dialog) → ((x : ℕ) → IsParse (next x)) → IsParse (λ a. on (take_port a) next)
on_port next p = parse-on ℕ take_port 2 next port-field p

on_split : (n : ℕ) (next : List ℕ → List ℕ → Dialog) → ((x : List ℕ) → IsParse (next x)) → IsParse (λ a. on (split_at n a) next)
on_split n next p = parse-on (List ℕ) (split_at n) n next (bytes-field n) p

on_text : (next : Option (List ℕ) → List ℕ → Dialog) → ((x : Option (List ℕ)) → IsParse (next x)) → IsParse (λ a. on (take_text a) next)
on_text next p = parse-on (Option (List ℕ)) take_text 256 next text-field p

name4-parse : (port : ℕ) (o : Option (List ℕ)) → IsParse (name4 port o)
name4-parse port None = parse-breaks refused4
name4-parse port (Some []) = parse-breaks refused4
name4-parse port (Some (b ∷ bytes)) = parse-connects (b ∷ bytes) port

user4-parse : (port : ℕ) (address : List ℕ) (o : Option (List ℕ)) → IsParse (user4 port address o)
user4-parse port address None = parse-breaks refused4
user4-parse port address (Some user) =
    parse-either (is_for_name address) (λ a. on (take_text a) (name4 port)) (dialog_connects (dotted address) port)
    (on_text (name4 port) (name4-parse port)) (parse-connects (dotted address) port)

address4-parse : (port : ℕ) → IsParse (address4 port)
address4-parse port = on_split 4 (λ address rest. on (take_text rest) (user4 port address))
    (λ address. on_text (user4 port address) (user4-parse port address))

command4-parse : (command : ℕ) → IsParse (command4 command)
command4-parse command =
    parse-either (command == 1) (λ a. on (take_port a) address4) (breaks refused4)
    (on_port address4 address4-parse) (parse-breaks refused4)

end5-parse : (host : List ℕ) → IsParse (end5 host)
end5-parse host = on_port (dialog_connects host) (parse-connects host)

name5-parse : (size : ℕ) → IsParse (name5 size)
name5-parse size =
    parse-either (size == 0) (breaks (reply5 general_failure)) (λ a. on (split_at size a) end5)
    (parse-breaks (reply5 general_failure)) (on_split size end5 end5-parse)

address5-parse : (kind : ℕ) → IsParse (address5 kind)
address5-parse kind =
    parse-either (kind == 1) (λ a. on (split_at 4 a) (λ address. end5 (dotted address))) _
    (on_split 4 (λ address. end5 (dotted address)) (λ address. end5-parse (dotted address)))
    (parse-either (kind == 3) (λ a. on (take_u8 a) name5) _ (on_u8 name5 name5-parse)
    (parse-either (kind == 4) (λ a. on (split_at 16 a) (λ address. end5 (grouped address))) (breaks (reply5 unknown_address))
    (on_split 16 (λ address. end5 (grouped address)) (λ address. end5-parse (grouped address)))
    (parse-breaks (reply5 unknown_address))))

reserved5-parse : (reserved : ℕ) → IsParse (reserved5 reserved)
reserved5-parse reserved =
    parse-either (reserved == 0) (λ a. on (take_u8 a) address5) (breaks (reply5 general_failure))
    (on_u8 address5 address5-parse) (parse-breaks (reply5 general_failure))

command5-parse : (command : ℕ) → IsParse (command5 command)
command5-parse command =
    parse-either (command == 1) (λ a. on (take_u8 a) reserved5) (breaks (reply5 unknown_command))
    (on_u8 reserved5 reserved5-parse) (parse-breaks (reply5 unknown_command))

request5-parse : (n : ℕ) → IsParse (request5 n)
request5-parse n =
    parse-either (n == 5) (λ a. on (take_u8 a) command5) (breaks (reply5 general_failure))
    (on_u8 command5 command5-parse) (parse-breaks (reply5 general_failure))

methods5-parse : (methods : List ℕ) → IsParse (methods5 methods)
methods5-parse methods =
    parse-either (list_any (λ method. method == 0) methods)
    (λ a. replying no_authentication (on (take_u8 a) request5)) (breaks no_method)
    (parse-replying no_authentication (λ a. on (take_u8 a) request5) (on_u8 request5 request5-parse))
    (parse-breaks no_method)

version-parse : (n : ℕ) → IsParse (version n)
version-parse n =
    parse-either (n == 4) socks4 _ (on_u8 command4 command4-parse)
    (parse-either (n == 5) socks5 (breaks [])
    (on_u8 (λ count rest. on (split_at count rest) methods5) (λ count. on_split count methods5 methods5-parse))
    (parse-breaks []))

pub socks-parse : IsParse socks
socks-parse = on_u8 version version-parse

-- ---- a dialog ends

-- more is wanted only of fewer bytes
abbrev pub Ends : ℕ → (List ℕ → Dialog) → Type 0
Ends n f = (a : List ℕ) → AreBytes a → (f a).outcome ≡ Wants → length a < n

ends-breaks : (n : ℕ) (reply : List ℕ) → Ends n (breaks reply)
ends-breaks n reply a bytes e = absurd (not_breaks reply e)

ends-connects : (n : ℕ) (host : List ℕ) (port : ℕ) → Ends n (dialog_connects host port)
ends-connects n host port a bytes e = absurd (not_connects host port e)

ends-either : (n : ℕ) (b : Bool) (f g : List ℕ → Dialog) → Ends n f → Ends n g → Ends n (λ a. either_dialog b (f a) (g a))
ends-either n true f g p q = p
ends-either n false f g p q = q

ends-within : (m n : ℕ) (f : List ℕ → Dialog) → m ≤ n → Ends m f → Ends n f
ends-within m n f l p a bytes e = let lt : length a < m = p a bytes e in omega arith

ends-on : (X : Type 0) (g : List ℕ → Option (X × List ℕ)) (n m : ℕ) (next : X → List ℕ → Dialog)
    → IsField X g n → ((a : List ℕ) (s : Stands X g n a) → AreBytes a → Ends m (next s.x))
    → Ends (n + m) (λ a. on (g a) next)
ends-on X g n m next field ends a bytes e = elim (field a) [
  | inl h ↦ omega (arith, h.1)
  | inr s ↦
      let first : g a ≡ Some (s.x, s.rest) = ap g s.whole ∙ s.reads s.rest in
      let behind : AreBytes s.rest = AreBytes-behind s.front s.rest (subst AreBytes s.whole bytes) in
      let short : length s.rest < m = ends a s bytes s.rest behind (ap (λ o. (on o next).outcome) (sym first) ∙ e) in
      let size : length a ≡ length s.front + length s.rest = ap length s.whole ∙ length-append s.front s.rest in
      let fits : length s.front ≤ n = s.fits in
      omega arith
]

-- a byte is below 256
byte_below : (x : ℕ) (front rest : List ℕ) → take_u8 (front ++ []) ≡ Some (x, []) → AreBytes (front ++ rest) → x < 256
byte_below x [] rest e bytes = absurd (cc)
byte_below x (b ∷ front) rest e bytes = rw (← (value_and_rest (b, front ++ []) (x, []) e).0) bytes.0

ends-u8 : (m : ℕ) (next : ℕ → List ℕ → Dialog) → ((x : ℕ) → x < 256 → Ends m (next x)) → Ends (1 + m) (λ a. on (take_u8 a) next)
ends-u8 m next ends = ends-on ℕ take_u8 1 m next u8-field
    (λ a s bytes. ends s.x (byte_below s.x s.front s.rest (s.reads []) (subst AreBytes s.whole bytes)))

ends-port : (m : ℕ) (next : ℕ → List ℕ → Dialog) → ((x : ℕ) → Ends m (next x)) → Ends (2 + m) (λ a. on (take_port a) next)
ends-port m next ends = ends-on ℕ take_port 2 m next port-field (λ a s bytes. ends s.x)

ends-split : (n m : ℕ) (next : List ℕ → List ℕ → Dialog) → ((x : List ℕ) → Ends m (next x)) → Ends (n + m) (λ a. on (split_at n a) next)
ends-split n m next ends = ends-on (List ℕ) (split_at n) n m next (bytes-field n) (λ a s bytes. ends s.x)

ends-text : (m : ℕ) (next : Option (List ℕ) → List ℕ → Dialog) → ((x : Option (List ℕ)) → Ends m (next x)) → Ends (256 + m) (λ a. on (take_text a) next)
ends-text m next ends = ends-on (Option (List ℕ)) take_text 256 m next text-field (λ a s bytes. ends s.x)

name4-ends : (port : ℕ) (o : Option (List ℕ)) → Ends 0 (name4 port o)
name4-ends port None = ends-breaks 0 refused4
name4-ends port (Some []) = ends-breaks 0 refused4
name4-ends port (Some (b ∷ bytes)) = ends-connects 0 (b ∷ bytes) port

user4-ends : (port : ℕ) (address : List ℕ) (o : Option (List ℕ)) → Ends 256 (user4 port address o)
user4-ends port address None = ends-breaks 256 refused4
user4-ends port address (Some user) =
    ends-either 256 (is_for_name address) (λ a. on (take_text a) (name4 port)) (dialog_connects (dotted address) port)
    (ends-text 0 (name4 port) (name4-ends port)) (ends-connects 256 (dotted address) port)

address4-ends : (port : ℕ) → Ends 516 (address4 port)
address4-ends port = ends-split 4 512 (λ address rest. on (take_text rest) (user4 port address))
    (λ address. ends-text 256 (user4 port address) (user4-ends port address))

command4-ends : (command : ℕ) → command < 256 → Ends 518 (command4 command)
command4-ends command l =
    ends-either 518 (command == 1) (λ a. on (take_port a) address4) (breaks refused4)
    (ends-port 516 address4 address4-ends) (ends-breaks 518 refused4)

end5-ends : (host : List ℕ) → Ends 2 (end5 host)
end5-ends host = ends-port 0 (dialog_connects host) (ends-connects 0 host)

name5-ends : (size : ℕ) → size < 256 → Ends 257 (name5 size)
name5-ends size l =
    ends-either 257 (size == 0) (breaks (reply5 general_failure)) (λ a. on (split_at size a) end5)
    (ends-breaks 257 (reply5 general_failure))
    (ends-within (size + 2) 257 (λ a. on (split_at size a) end5) (omega arith) (ends-split size 2 end5 end5-ends))

address5-ends : (kind : ℕ) → kind < 256 → Ends 258 (address5 kind)
address5-ends kind l =
    ends-either 258 (kind == 1) (λ a. on (split_at 4 a) (λ address. end5 (dotted address))) _
    (ends-within 6 258 (λ a. on (split_at 4 a) (λ address. end5 (dotted address))) (omega arith)
    (ends-split 4 2 (λ address. end5 (dotted address)) (λ address. end5-ends (dotted address))))
    (ends-either 258 (kind == 3) (λ a. on (take_u8 a) name5) _ (ends-u8 257 name5 name5-ends)
    (ends-either 258 (kind == 4) (λ a. on (split_at 16 a) (λ address. end5 (grouped address))) (breaks (reply5 unknown_address))
    (ends-within 18 258 (λ a. on (split_at 16 a) (λ address. end5 (grouped address))) (omega arith)
    (ends-split 16 2 (λ address. end5 (grouped address)) (λ address. end5-ends (grouped address))))
    (ends-breaks 258 (reply5 unknown_address))))

reserved5-ends : (reserved : ℕ) → reserved < 256 → Ends 259 (reserved5 reserved)
reserved5-ends reserved l =
    ends-either 259 (reserved == 0) (λ a. on (take_u8 a) address5) (breaks (reply5 general_failure))
    (ends-u8 258 address5 address5-ends) (ends-breaks 259 (reply5 general_failure))

command5-ends : (command : ℕ) → command < 256 → Ends 260 (command5 command)
command5-ends command l =
    ends-either 260 (command == 1) (λ a. on (take_u8 a) reserved5) (breaks (reply5 unknown_command))
    (ends-u8 259 reserved5 reserved5-ends) (ends-breaks 260 (reply5 unknown_command))

request5-ends : (n : ℕ) → n < 256 → Ends 261 (request5 n)
request5-ends n l =
    ends-either 261 (n == 5) (λ a. on (take_u8 a) command5) (breaks (reply5 general_failure))
    (ends-u8 260 command5 command5-ends) (ends-breaks 261 (reply5 general_failure))

methods5-ends : (methods : List ℕ) → Ends 262 (methods5 methods)
methods5-ends methods =
    ends-either 262 (list_any (λ method. method == 0) methods)
    (λ a. replying no_authentication (on (take_u8 a) request5)) (breaks no_method)
    (ends-u8 261 request5 request5-ends) (ends-breaks 262 no_method)

count5-ends : (count : ℕ) → count < 256 → Ends 517 (λ rest. on (split_at count rest) methods5)
count5-ends count l =
    ends-within (count + 262) 517 (λ rest. on (split_at count rest) methods5) (omega arith)
    (ends-split count 262 methods5 methods5-ends)

version-ends : (n : ℕ) → n < 256 → Ends 519 (version n)
version-ends n l =
    ends-either 519 (n == 4) socks4 _ (ends-u8 518 command4 command4-ends)
    (ends-either 519 (n == 5) socks5 (breaks [])
    (ends-within 518 519 socks5 (omega arith) (ends-u8 517 (λ count rest. on (split_at count rest) methods5) count5-ends))
    (ends-breaks 519 []))

pub socks-ends : Ends 520 socks
socks-ends = ends-u8 519 version version-ends
