-- What is spelled as a message reads as it.
use Rattle.std.proofs.Common.{◌≡◌, ℕ, zero, suc, ◌+◌, ◌<◌, ◌^◌, List, [], ◌∷◌, ◌++◌, length, Bool, Result, Ok, refl, sym, ◌∙◌, ap, arith}
use Rattle.std.proofs.lemmas.List.{append-nil, append_assoc}
use Rattle.ssh_fields.specs.Fields.{u32, str, is_true}
use Rattle.ssh_grammar.specs.declared.fault.Bad.{Bad}
use Rattle.ssh_grammar.specs.Messages.{Key, Tcp, Path, Global, Forward, Cancel, KeepAlive, OtherName, Opens, Session, Direct, Forwarded, OtherType, PlainMessage, Transport, GlobalRequest, RequestSuccess, RequestFailure, Open, ChannelMessage, Confirmation, OpenFailure, Adjust, Data, Extended, Eof, Close, Request, Success, Failure, Message, Plain, To}
use Rattle.ssh_grammar.specs.ReadMessage.{message_on_end, with_reading, read_key, read_path, globals, read_global, read_ends, read_direct_path, read_forwarded_path, types, read_opens, read_global_request, read_open, read_confirmation, read_open_failure, read_adjust, read_data, read_extended, read_request, read_as, OfChannel, read_message}
use Rattle.ssh_grammar.specs.SpellMessage.{wants_reply, spell_plain, spell_with}
use Rattle.ssh_grammar.specs.IsMessage.{IsKey, IsEnds, IsForwardedPath, IsGlobal, IsOpens, IsPlain, IsChannelMessage, IsMessage, Spells}
use Rattle.ssh_grammar.proofs.Steps.{u32_read, str_read, bool_read}
use Rattle.ssh_grammar.proofs.Tables.{by_name-other}

end_read : {A : Type 0} (bytes : List ℕ) (at : ℕ) (m : A) → bytes ≡ [] → message_on_end bytes at m ≡ Ok m
end_read bytes at m e = ap (λ x. message_on_end x at m) e

-- ---- data that is read further

key_read : (what : Key → Global) (rest address : List ℕ) (port at : ℕ) → IsKey rest (Tcp address port) → read_key rest at what ≡ Ok (what (Tcp address port))
key_read what rest address port at is = str_read _ _ _ rest address (u32 port) is.fits.0 is.spelled (λ r0 e0.
    u32_read _ _ _ r0 port [] is.fits.1 e0 (λ r1 e1. end_read r1 _ (what (Tcp address port)) e1))

path_read : (what : Key → Global) (rest path : List ℕ) (at : ℕ) → IsKey rest (Path path) → read_path rest at what ≡ Ok (what (Path path))
path_read what rest path at is = str_read _ _ _ rest path [] is.fits (is.spelled ∙ sym (append-nil (str path))) (λ r0 e0. end_read r0 _ (what (Path path)) e0)

global_read : (name rest : List ℕ) (at : ℕ) (what : Global) → IsGlobal name rest what → read_global name rest at ≡ Ok what
global_read name rest at (Forward (Tcp address port)) is = ap (λ x. read_global x rest at) is.0 ∙ key_read Forward rest address port at is.1
global_read name rest at (Forward (Path path)) is = ap (λ x. read_global x rest at) is.0 ∙ path_read Forward rest path at is.1
global_read name rest at (Cancel (Tcp address port)) is = ap (λ x. read_global x rest at) is.0 ∙ key_read Cancel rest address port at is.1
global_read name rest at (Cancel (Path path)) is = ap (λ x. read_global x rest at) is.0 ∙ path_read Cancel rest path at is.1
global_read name rest at KeepAlive is = ap (λ x. read_global x rest at) is
global_read name rest at OtherName is = by_name-other (globals rest at) name (Ok OtherName) (is.0, (is.1, (is.2, (is.3, (is.4, tt)))))

ends_read : (what : Key → Opens) (rest host : List ℕ) (port at : ℕ) → IsEnds rest (Tcp host port) → read_ends rest at what ≡ Ok (what (Tcp host port))
ends_read what rest host port at is = str_read _ _ _ rest host _ is.fits.0 (is.spelled ∙ append_assoc (str host) (u32 port) (str is.originator ++ u32 is.originator_port)) (λ r0 e0. u32_read _ _ _ r0 port _ is.fits.1 e0 (λ r1 e1.
    str_read _ _ _ r1 is.originator _ is.originator_fits e1 (λ r2 e2. u32_read _ _ _ r2 is.originator_port [] is.originator_port_fits e2 (λ r3 e3. end_read r3 _ (what (Tcp host port)) e3))))

direct_path_read : (rest path : List ℕ) (at : ℕ) → IsEnds rest (Path path) → read_direct_path rest at ≡ Ok (Direct (Path path))
direct_path_read rest path at is = str_read _ _ _ rest path _ is.fits is.spelled (λ r0 e0.
    str_read _ _ _ r0 is.originator _ is.originator_fits e0 (λ r1 e1. u32_read _ _ _ r1 is.originator_port [] is.originator_port_fits e1 (λ r2 e2. end_read r2 _ (Direct (Path path)) e2)))

forwarded_path_read : (rest path : List ℕ) (at : ℕ) → IsForwardedPath rest path → read_forwarded_path rest at ≡ Ok (Forwarded (Path path))
forwarded_path_read rest path at is = str_read _ _ _ rest path _ is.fits is.spelled (λ r0 e0.
    str_read _ _ _ r0 is.reserved [] is.reserved_fits (e0 ∙ sym (append-nil (str is.reserved))) (λ r1 e1. end_read r1 _ (Forwarded (Path path)) e1))

opens_read : (kind rest : List ℕ) (at : ℕ) (what : Opens) → IsOpens kind rest what → read_opens kind rest at ≡ Ok what
opens_read kind rest at Session is = ap (λ x. read_opens x rest at) is
opens_read kind rest at (Direct (Tcp host port)) is = ap (λ x. read_opens x rest at) is.0 ∙ ends_read Direct rest host port at is.1
opens_read kind rest at (Direct (Path path)) is = ap (λ x. read_opens x rest at) is.0 ∙ direct_path_read rest path at is.1
opens_read kind rest at (Forwarded (Tcp host port)) is = ap (λ x. read_opens x rest at) is.0 ∙ ends_read Forwarded rest host port at is.1
opens_read kind rest at (Forwarded (Path path)) is = ap (λ x. read_opens x rest at) is.0 ∙ forwarded_path_read rest path at is.1
opens_read kind rest at OtherType is = by_name-other (types rest at) kind (Ok OtherType) (is.0, (is.1, (is.2, (is.3, (is.4, tt)))))

-- ---- the messages to no channel

global_request_read : (rest name : List ℕ) (flag : ℕ) (want : Bool) (more : List ℕ) (what : Global) → IsPlain (GlobalRequest name want more what) → is_true flag ≡ want → rest ≡ str name ++ (flag ∷ more) → read_global_request rest ≡ Ok (GlobalRequest name want more what)
global_request_read rest name flag want more what is same e = str_read _ _ _ rest name _ is.0 e (λ r0 e0. bool_read _ _ _ r0 flag want more same e0 (λ r1 e1.
    ap (λ r. with_reading (read_global name r (1 + 4 + length name + 1)) (GlobalRequest name want r)) e1
    ∙ ap (λ r. with_reading r (GlobalRequest name want more)) (global_read name more (1 + 4 + length name + 1) what is.1)))

open_read : (rest kind : List ℕ) (sender window maximum : ℕ) (more : List ℕ) (what : Opens) → IsPlain (Open kind sender window maximum more what) → rest ≡ str kind ++ (u32 sender ++ (u32 window ++ (u32 maximum ++ more))) → read_open rest ≡ Ok (Open kind sender window maximum more what)
open_read rest kind sender window maximum more what is e = str_read _ _ _ rest kind _ is.0 e (λ r0 e0. u32_read _ _ _ r0 sender _ is.1 e0 (λ r1 e1. u32_read _ _ _ r1 window _ is.2 e1 (λ r2 e2. u32_read _ _ _ r2 maximum more is.3 e2 (λ r3 e3.
    ap (λ r. with_reading (read_opens kind r (1 + 4 + length kind + 4 + 4 + 4)) (Open kind sender window maximum r)) e3
    ∙ ap (λ r. with_reading r (Open kind sender window maximum more)) (opens_read kind more (1 + 4 + length kind + 4 + 4 + 4) what is.4)))))

plain_read : (m : PlainMessage) (flag : ℕ) → IsPlain m → is_true flag ≡ wants_reply (Plain m) → read_message (spell_plain flag m) ≡ Ok (Plain m)
plain_read (Transport zero rest) flag is same = absurd (omega (arith, is.0))
plain_read (Transport (suc zero) rest) flag is same = refl
plain_read (Transport (suc (suc zero)) rest) flag is same = refl
plain_read (Transport (suc (suc (suc zero))) rest) flag is same = refl
plain_read (Transport (suc (suc (suc (suc zero)))) rest) flag is same = refl
plain_read (Transport (suc (suc (suc (suc (suc n))))) rest) flag is same = absurd (omega (arith, is.1))
plain_read (GlobalRequest name want rest what) flag is same = ap (λ r. with_reading r Plain) (global_request_read (str name ++ (flag ∷ rest)) name flag want rest what is same refl)
plain_read (RequestSuccess rest) flag is same = refl
plain_read RequestFailure flag is same = refl
plain_read (Open kind sender window maximum rest what) flag is same = ap (λ r. with_reading r Plain) (open_read (str kind ++ (u32 sender ++ (u32 window ++ (u32 maximum ++ rest)))) kind sender window maximum rest what is refl)

-- ---- the messages to a channel

confirmation_read : (bytes : List ℕ) (sender window maximum : ℕ) (rest : List ℕ) → IsChannelMessage (Confirmation sender window maximum rest) → bytes ≡ u32 sender ++ (u32 window ++ (u32 maximum ++ rest)) → read_confirmation bytes ≡ Ok (Confirmation sender window maximum rest)
confirmation_read bytes sender window maximum rest is e = u32_read _ _ _ bytes sender _ is.0 e (λ r0 e0. u32_read _ _ _ r0 window _ is.1 e0 (λ r1 e1. u32_read _ _ _ r1 maximum _ is.2 e1 (λ r2 e2.
    ap (λ r. Ok (Confirmation sender window maximum r)) e2)))

open_failure_read : (bytes : List ℕ) (reason : ℕ) (text language : List ℕ) → IsChannelMessage (OpenFailure reason text language) → bytes ≡ u32 reason ++ (str text ++ str language) → read_open_failure bytes ≡ Ok (OpenFailure reason text language)
open_failure_read bytes reason text language is e = u32_read _ _ _ bytes reason _ is.0 e (λ r0 e0. str_read _ _ _ r0 text _ is.1 e0 (λ r1 e1. str_read _ _ _ r1 language [] is.2 (e1 ∙ sym (append-nil (str language))) (λ r2 e2.
    end_read r2 _ (OpenFailure reason text language) e2)))

data_read : (bytes s : List ℕ) → IsChannelMessage (Data s) → bytes ≡ str s → read_data bytes ≡ Ok (Data s)
data_read bytes s is e = str_read _ _ _ bytes s [] is (e ∙ sym (append-nil (str s))) (λ r0 e0. end_read r0 _ (Data s) e0)

extended_read : (bytes : List ℕ) (code : ℕ) (s : List ℕ) → IsChannelMessage (Extended code s) → bytes ≡ u32 code ++ str s → read_extended bytes ≡ Ok (Extended code s)
extended_read bytes code s is e = u32_read _ _ _ bytes code _ is.0 e (λ r0 e0. str_read _ _ _ r0 s [] is.1 (e0 ∙ sym (append-nil (str s))) (λ r1 e1. end_read r1 _ (Extended code s) e1))

request_read : (bytes kind : List ℕ) (flag : ℕ) (want : Bool) (rest : List ℕ) → IsChannelMessage (Request kind want rest) → is_true flag ≡ want → bytes ≡ str kind ++ (flag ∷ rest) → read_request bytes ≡ Ok (Request kind want rest)
request_read bytes kind flag want rest is same e = str_read _ _ _ bytes kind _ is e (λ r0 e0. bool_read _ _ _ r0 flag want rest same e0 (λ r1 e1. ap (λ r. Ok (Request kind want r)) e1))

-- a reader that reads the fields after the recipient reads the message
channel_read : (read : List ℕ → Result ChannelMessage Bad) (n recipient : ℕ) (m : ChannelMessage) (fields : List ℕ) → recipient < 2 ^ 32 → read fields ≡ Ok m → read_as n (OfChannel read) (u32 recipient ++ fields) ≡ Ok (To recipient m)
channel_read read n recipient m fields fits reads = at_bytes (u32 recipient ++ fields) refl
  where
    at_bytes : (bytes : List ℕ) → bytes ≡ u32 recipient ++ fields → read_as n (OfChannel read) bytes ≡ Ok (To recipient m)
    at_bytes bytes e = u32_read _ _ _ bytes recipient fields fits e (λ r e. ap (λ r. with_reading (read r) (To recipient)) e ∙ ap (λ r. with_reading r (To recipient)) reads)

to_read : (recipient : ℕ) (m : ChannelMessage) (flag : ℕ) → recipient < 2 ^ 32 → IsChannelMessage m → is_true flag ≡ wants_reply (To recipient m) → read_message (spell_with flag (To recipient m)) ≡ Ok (To recipient m)
to_read r (Confirmation sender window maximum rest) flag fits is same = channel_read read_confirmation 91 r (Confirmation sender window maximum rest) (u32 sender ++ (u32 window ++ (u32 maximum ++ rest))) fits (confirmation_read (u32 sender ++ (u32 window ++ (u32 maximum ++ rest))) sender window maximum rest is refl)
to_read r (OpenFailure reason text language) flag fits is same = channel_read read_open_failure 92 r (OpenFailure reason text language) (u32 reason ++ (str text ++ str language)) fits (open_failure_read (u32 reason ++ (str text ++ str language)) reason text language is refl)
to_read r (Adjust add) flag fits is same = channel_read read_adjust 93 r (Adjust add) (u32 add) fits (adjust_read (u32 add) refl)
  where
    adjust_read : (bytes : List ℕ) → bytes ≡ u32 add → read_adjust bytes ≡ Ok (Adjust add)
    adjust_read bytes e = u32_read _ _ _ bytes add [] is e (λ r0 e0. end_read r0 _ (Adjust add) e0)
to_read r (Data bytes) flag fits is same = channel_read read_data 94 r (Data bytes) (str bytes) fits (data_read (str bytes) bytes is refl)
to_read r (Extended code bytes) flag fits is same = channel_read read_extended 95 r (Extended code bytes) (u32 code ++ str bytes) fits (extended_read (u32 code ++ str bytes) code bytes is refl)
to_read r Eof flag fits is same = channel_read (λ rest. message_on_end rest 5 Eof) 96 r Eof [] fits refl
to_read r Close flag fits is same = channel_read (λ rest. message_on_end rest 5 Close) 97 r Close [] fits refl
to_read r (Request kind want rest) flag fits is same = channel_read read_request 98 r (Request kind want rest) (str kind ++ (flag ∷ rest)) fits (request_read (str kind ++ (flag ∷ rest)) kind flag want rest is same refl)
to_read r Success flag fits is same = channel_read (λ rest. message_on_end rest 5 Success) 99 r Success [] fits refl
to_read r Failure flag fits is same = channel_read (λ rest. message_on_end rest 5 Failure) 100 r Failure [] fits refl

-- a payload of a message reads as it
pub spelled_reads : (m : Message) (p : List ℕ) → Spells m p → read_message p ≡ Ok m
spelled_reads m p is = ap read_message is.spelled ∙ by_case m is.is_message is.boolean
  where
    by_case : (m : Message) → IsMessage m → is_true is.flag ≡ wants_reply m → read_message (spell_with is.flag m) ≡ Ok m
    by_case (Plain m) is_message same = plain_read m is.flag is_message same
    by_case (To recipient m) is_message same = to_read recipient m is.flag is_message.0 is_message.1 same
