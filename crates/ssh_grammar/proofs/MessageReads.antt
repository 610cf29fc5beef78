-- What reads as a message is spelled so.
use Rattle.std.proofs.Common.{◌≡◌, ℕ, ◌≤◌, List, [], ◌∷◌, ◌++◌, Result, Ok, Err, IfOk, refl, sym, ◌∙◌, ap, subst, arith}
use Rattle.std.specs.List.{AllByRecursion}
use Rattle.std.proofs.lemmas.List.{append-nil, append_assoc}
use Rattle.ssh_fields.specs.Fields.{AreBytes, u32, str, is_true}
use Rattle.ssh_grammar.specs.declared.fault.Bad.{Bad}
use Rattle.ssh_grammar.specs.declared.numbers.TheConstants as number
use Rattle.ssh_grammar.specs.Messages.{Key, Tcp, Path, Global, Forward, Cancel, OtherName, Opens, Direct, Forwarded, OtherType, PlainMessage, RequestSuccess, RequestFailure, ChannelMessage, Eof, Close, Success, Failure, Plain, To}
use Rattle.ssh_grammar.specs.ReadMessage.{message_on_end, with_reading, read_key, read_path, globals, read_global, read_ends, read_direct_path, read_forwarded_path, types, read_opens, read_transport, read_global_request, read_open, read_confirmation, read_open_failure, read_adjust, read_data, read_extended, read_request, read_as, OfPlain, OfChannel, OfNone, message_forms, read_message}
use Rattle.ssh_grammar.specs.SpellMessage.{fields_of, wants_reply, channel_message_number, spell_plain}
use Rattle.ssh_grammar.specs.IsMessage.{IsKey, IsEnds, IsForwardedPath, IsGlobal, IsOpens, IsPlain, IsChannelMessage, Spells}
use Rattle.ssh_grammar.proofs.Steps.{u32_step, str_step, bool_step}
use Rattle.ssh_grammar.proofs.Tables.{by_number-holds, by_name-holds}

-- the message's number, and the fields after the recipient
record IsFields (n : ℕ) (bytes : List ℕ) (m : ChannelMessage) : Type 0 where
  number : n ≡ channel_message_number m
  is_message : IsChannelMessage m
  flag : ℕ
  boolean : (recipient : ℕ) → is_true flag ≡ wants_reply (To recipient m)
  spelled : bytes ≡ fields_of flag m

end_step : {A : Type 0} (Q : A → Type 0) (bytes : List ℕ) (at : ℕ) (m : A) → (bytes ≡ [] → Q m) → IfOk (message_on_end bytes at m) Q
end_step Q [] at m go = go refl
end_step Q (b ∷ bytes) at m go = tt

with_step : {A B : Type 0} (P : A → Type 0) (Q : B → Type 0) (r : Result A Bad) (f : A → B) → IfOk r P → ((a : A) → P a → Q (f a)) → IfOk (with_reading r f) Q
with_step P Q (Ok a) f h go = go a h
with_step P Q (Err e) f h go = tt

-- ---- data that is read further

key_is : (what : Key → Global) (rest : List ℕ) (at : ℕ) (Q : Global → Type 0) → AreBytes rest → ((address : List ℕ) (port : ℕ) → IsKey rest (Tcp address port) → Q (what (Tcp address port))) → IfOk (read_key rest at what) Q
key_is what rest at Q h go = str_step Q _ _ rest h (λ address r0 fits0 e0 h0. u32_step Q _ _ r0 h0 (λ port r1 fits1 e1 _.
    end_step Q r1 _ (what (Tcp address port)) (λ n. go address port (record {
      fits = (fits0, fits1);
      spelled = e0 ∙ ap (λ x. str address ++ x) (e1 ∙ ap (λ x. u32 port ++ x) n);
    }))))

path_is : (what : Key → Global) (rest : List ℕ) (at : ℕ) (Q : Global → Type 0) → AreBytes rest → ((path : List ℕ) → IsKey rest (Path path) → Q (what (Path path))) → IfOk (read_path rest at what) Q
path_is what rest at Q h go = str_step Q _ _ rest h (λ path r0 fits0 e0 h0.
    end_step Q r0 _ (what (Path path)) (λ n. go path (record {
      fits = fits0;
      spelled = e0 ∙ (ap (λ x. str path ++ x) n ∙ append-nil (str path));
    })))

global_is : (name rest : List ℕ) (at : ℕ) → AreBytes rest → IfOk (read_global name rest at) (λ what. IsGlobal name rest what)
global_is name rest at h = by_name-holds (λ r. IfOk r (IsGlobal name rest)) (globals rest at) name (Ok OtherName) (
  λ same. key_is Forward rest at (IsGlobal name rest) h (λ address port is. (same, is)),
  (
    λ same. key_is Cancel rest at (IsGlobal name rest) h (λ address port is. (same, is)),
    (
      λ same. path_is Forward rest at (IsGlobal name rest) h (λ path is. (same, is)),
      (λ same. path_is Cancel rest at (IsGlobal name rest) h (λ path is. (same, is)), (λ same. same, tt)),
    ),
  ),
)
    (λ apart. (apart.0, apart.1.0, apart.1.1.0, apart.1.1.1.0, apart.1.1.1.1.0))

ends_is : (what : Key → Opens) (rest : List ℕ) (at : ℕ) (Q : Opens → Type 0) → AreBytes rest → ((host : List ℕ) (port : ℕ) → IsEnds rest (Tcp host port) → Q (what (Tcp host port))) → IfOk (read_ends rest at what) Q
ends_is what rest at Q h go = str_step Q _ _ rest h (λ host r0 fits0 e0 h0. u32_step Q _ _ r0 h0 (λ port r1 fits1 e1 h1.
    str_step Q _ _ r1 h1 (λ from r2 fits2 e2 h2. u32_step Q _ _ r2 h2 (λ from_port r3 fits3 e3 _.
    end_step Q r3 _ (what (Tcp host port)) (λ n. go host port (record {
      originator = from;
      originator_port = from_port;
      fits = (fits0, fits1);
      originator_fits = fits2;
      originator_port_fits = fits3;
      spelled = (e0 ∙ ap (λ x. str host ++ x) (e1 ∙ ap (λ x. u32 port ++ x) (e2 ∙ ap (λ x. str from ++ x) (e3 ∙ ap (λ x. u32 from_port ++ x) n)))) ∙ sym (append_assoc (str host) (u32 port) (str from ++ u32 from_port));
    }))))))

direct_path_is : (rest : List ℕ) (at : ℕ) (Q : Opens → Type 0) → AreBytes rest → ((path : List ℕ) → IsEnds rest (Path path) → Q (Direct (Path path))) → IfOk (read_direct_path rest at) Q
direct_path_is rest at Q h go = str_step Q _ _ rest h (λ path r0 fits0 e0 h0. str_step Q _ _ r0 h0 (λ reserved r1 fits1 e1 h1. u32_step Q _ _ r1 h1 (λ number r2 fits2 e2 _.
    end_step Q r2 _ (Direct (Path path)) (λ n. go path (record {
      originator = reserved;
      originator_port = number;
      fits = fits0;
      originator_fits = fits1;
      originator_port_fits = fits2;
      spelled = e0 ∙ ap (λ x. str path ++ x) (e1 ∙ ap (λ x. str reserved ++ x) (e2 ∙ ap (λ x. u32 number ++ x) n));
    })))))

forwarded_path_is : (rest : List ℕ) (at : ℕ) (Q : Opens → Type 0) → AreBytes rest → ((path : List ℕ) → IsForwardedPath rest path → Q (Forwarded (Path path))) → IfOk (read_forwarded_path rest at) Q
forwarded_path_is rest at Q h go = str_step Q _ _ rest h (λ path r0 fits0 e0 h0. str_step Q _ _ r0 h0 (λ reserved r1 fits1 e1 _.
    end_step Q r1 _ (Forwarded (Path path)) (λ n. go path (record {
      reserved = reserved;
      fits = fits0;
      reserved_fits = fits1;
      spelled = e0 ∙ ap (λ x. str path ++ x) (e1 ∙ (ap (λ x. str reserved ++ x) n ∙ append-nil (str reserved)));
    }))))

opens_is : (kind rest : List ℕ) (at : ℕ) → AreBytes rest → IfOk (read_opens kind rest at) (λ what. IsOpens kind rest what)
opens_is kind rest at h = by_name-holds (λ r. IfOk r (IsOpens kind rest)) (types rest at) kind (Ok OtherType) (
  λ same. same,
  (
    λ same. ends_is Direct rest at (IsOpens kind rest) h (λ host port is. (same, is)),
    (
      λ same. ends_is Forwarded rest at (IsOpens kind rest) h (λ host port is. (same, is)),
      (
        λ same. direct_path_is rest at (IsOpens kind rest) h (λ path is. (same, is)),
        (λ same. forwarded_path_is rest at (IsOpens kind rest) h (λ path is. (same, is)), tt),
      ),
    ),
  ),
)
    (λ apart. (apart.0, apart.1.0, apart.1.1.0, apart.1.1.1.0, apart.1.1.1.1.0))

-- ---- the messages to no channel

-- the payload after the number
record IsBehind (n : ℕ) (bytes : List ℕ) (m : PlainMessage) : Type 0 where
  is_message : IsPlain m
  flag : ℕ
  boolean : is_true flag ≡ wants_reply (Plain m)
  spelled : n ∷ bytes ≡ spell_plain flag m

global_request_is : (rest : List ℕ) → AreBytes rest → IfOk (read_global_request rest) (IsBehind number.GLOBAL_REQUEST rest)
global_request_is rest h = str_step (IsBehind number.GLOBAL_REQUEST rest) _ _ rest h (λ name r0 fits e0 h0. bool_step (IsBehind number.GLOBAL_REQUEST rest) _ _ r0 h0 (λ flag r1 e1 h1.
    with_step (IsGlobal name r1) (IsBehind number.GLOBAL_REQUEST rest) _ _ (global_is name r1 _ h1) (λ what is. record {
      is_message = (fits, is);
      flag = flag;
      boolean = refl;
      spelled = ap (λ x. number.GLOBAL_REQUEST ∷ x) (e0 ∙ ap (λ x. str name ++ x) e1);
    })))

open_is : (rest : List ℕ) → AreBytes rest → IfOk (read_open rest) (IsBehind number.CHANNEL_OPEN rest)
open_is rest h = str_step (IsBehind number.CHANNEL_OPEN rest) _ _ rest h (λ kind r0 fits0 e0 h0. u32_step (IsBehind number.CHANNEL_OPEN rest) _ _ r0 h0 (λ sender r1 fits1 e1 h1.
    u32_step (IsBehind number.CHANNEL_OPEN rest) _ _ r1 h1 (λ window r2 fits2 e2 h2. u32_step (IsBehind number.CHANNEL_OPEN rest) _ _ r2 h2 (λ maximum r3 fits3 e3 h3.
    with_step (IsOpens kind r3) (IsBehind number.CHANNEL_OPEN rest) _ _ (opens_is kind r3 _ h3) (λ what is. record {
      is_message = (fits0, fits1, fits2, fits3, is);
      flag = 0;
      boolean = refl;
      spelled = ap (λ x. number.CHANNEL_OPEN ∷ x) (e0 ∙ ap (λ x. str kind ++ x) (e1 ∙ ap (λ x. u32 sender ++ x) (e2 ∙ ap (λ x. u32 window ++ x) e3)));
    })))))

-- ---- the messages to a channel

confirmation_is : (rest : List ℕ) → AreBytes rest → IfOk (read_confirmation rest) (IsFields number.CHANNEL_OPEN_CONFIRMATION rest)
confirmation_is rest h = u32_step (IsFields number.CHANNEL_OPEN_CONFIRMATION rest) _ _ rest h (λ sender r1 fits1 e1 h1. u32_step (IsFields number.CHANNEL_OPEN_CONFIRMATION rest) _ _ r1 h1 (λ window r2 fits2 e2 h2.
    u32_step (IsFields number.CHANNEL_OPEN_CONFIRMATION rest) _ _ r2 h2 (λ maximum r3 fits3 e3 _. record {
      number = refl;
      is_message = (fits1, fits2, fits3);
      flag = 0;
      boolean = λ recipient. refl;
      spelled = e1 ∙ ap (λ x. u32 sender ++ x) (e2 ∙ ap (λ x. u32 window ++ x) e3);
    })))

open_failure_is : (rest : List ℕ) → AreBytes rest → IfOk (read_open_failure rest) (IsFields number.CHANNEL_OPEN_FAILURE rest)
open_failure_is rest h = u32_step (IsFields number.CHANNEL_OPEN_FAILURE rest) _ _ rest h (λ reason r1 fits1 e1 h1. str_step (IsFields number.CHANNEL_OPEN_FAILURE rest) _ _ r1 h1 (λ text r2 fits2 e2 h2.
    str_step (IsFields number.CHANNEL_OPEN_FAILURE rest) _ _ r2 h2 (λ language r3 fits3 e3 _. end_step (IsFields number.CHANNEL_OPEN_FAILURE rest) r3 _ _ (λ n. record {
      number = refl;
      is_message = (fits1, fits2, fits3);
      flag = 0;
      boolean = λ recipient. refl;
      spelled = e1 ∙ ap (λ x. u32 reason ++ x) (e2 ∙ ap (λ x. str text ++ x) (e3 ∙ (ap (λ x. str language ++ x) n ∙ append-nil (str language))));
    }))))

adjust_is : (rest : List ℕ) → AreBytes rest → IfOk (read_adjust rest) (IsFields number.CHANNEL_WINDOW_ADJUST rest)
adjust_is rest h = u32_step (IsFields number.CHANNEL_WINDOW_ADJUST rest) _ _ rest h (λ add r fits e _. end_step (IsFields number.CHANNEL_WINDOW_ADJUST rest) r _ _ (λ n. record {
  number = refl;
  is_message = fits;
  flag = 0;
  boolean = λ recipient. refl;
  spelled = e ∙ ap (λ x. u32 add ++ x) n;
}))

data_is : (rest : List ℕ) → AreBytes rest → IfOk (read_data rest) (IsFields number.CHANNEL_DATA rest)
data_is rest h = str_step (IsFields number.CHANNEL_DATA rest) _ _ rest h (λ bytes r fits e _. end_step (IsFields number.CHANNEL_DATA rest) r _ _ (λ n. record {
  number = refl;
  is_message = fits;
  flag = 0;
  boolean = λ recipient. refl;
  spelled = e ∙ (ap (λ x. str bytes ++ x) n ∙ append-nil (str bytes));
}))

extended_is : (rest : List ℕ) → AreBytes rest → IfOk (read_extended rest) (IsFields number.CHANNEL_EXTENDED_DATA rest)
extended_is rest h = u32_step (IsFields number.CHANNEL_EXTENDED_DATA rest) _ _ rest h (λ code r1 fits1 e1 h1. str_step (IsFields number.CHANNEL_EXTENDED_DATA rest) _ _ r1 h1 (λ bytes r2 fits2 e2 _. end_step (IsFields number.CHANNEL_EXTENDED_DATA rest) r2 _ _ (λ n. record {
  number = refl;
  is_message = (fits1, fits2);
  flag = 0;
  boolean = λ recipient. refl;
  spelled = e1 ∙ ap (λ x. u32 code ++ x) (e2 ∙ (ap (λ x. str bytes ++ x) n ∙ append-nil (str bytes)));
})))

bare_is : (n : ℕ) (m : ChannelMessage) (rest : List ℕ) → IsFields n [] m → IfOk (message_on_end rest 5 m) (IsFields n rest)
bare_is n m rest is = end_step (IsFields n rest) rest 5 m (λ e. subst (λ x. IsFields n x m) (sym e) is)

request_is : (rest : List ℕ) → AreBytes rest → IfOk (read_request rest) (IsFields number.CHANNEL_REQUEST rest)
request_is rest h = str_step (IsFields number.CHANNEL_REQUEST rest) _ _ rest h (λ kind r1 fits e1 h1. bool_step (IsFields number.CHANNEL_REQUEST rest) _ _ r1 h1 (λ flag r2 e2 _. record {
  number = refl;
  is_message = fits;
  flag = flag;
  boolean = λ recipient. refl;
  spelled = e1 ∙ ap (λ x. str kind ++ x) e2;
}))

-- ---- by its number

plain_is : (n : ℕ) (read : List ℕ → Result PlainMessage Bad) (rest : List ℕ) → IfOk (read rest) (IsBehind n rest) → IfOk (read_as n (OfPlain read) rest) (λ m. Spells m (n ∷ rest))
plain_is n read rest h = with_step (IsBehind n rest) (λ m. Spells m (n ∷ rest)) (read rest) Plain h (λ m is. record {
  is_message = is.is_message;
  flag = is.flag;
  boolean = is.boolean;
  spelled = is.spelled;
})

channel_is : (n : ℕ) (read : List ℕ → Result ChannelMessage Bad) (rest : List ℕ) → AreBytes rest → ((bytes : List ℕ) → AreBytes bytes → IfOk (read bytes) (IsFields n bytes)) → IfOk (read_as n (OfChannel read) rest) (λ m. Spells m (n ∷ rest))
channel_is n read rest h is = u32_step (λ m. Spells m (n ∷ rest)) _ _ rest h (λ recipient r fits e h1.
    with_step (IsFields n r) (λ m. Spells m (n ∷ rest)) (read r) (To recipient) (is r h1) (λ m is. record {
      is_message = (fits, is.is_message);
      flag = is.flag;
      boolean = is.boolean recipient;
      spelled = ap (λ x. n ∷ x) (e ∙ ap (λ x. u32 recipient ++ x) is.spelled) ∙ ap (λ k. k ∷ (u32 recipient ++ fields_of is.flag m)) is.number;
    }))

-- by number
message_is : (n : ℕ) (rest : List ℕ) → AreBytes rest → IfOk (read_message (n ∷ rest)) (λ m. Spells m (n ∷ rest))
message_is n rest h = by_number-holds (λ form. IfOk (read_as n form rest) (λ m. Spells m (n ∷ rest))) (message_forms n) n OfNone rows tt
  where
    transport : (k : ℕ) → (1 ≤ k) × (k ≤ 4) → n ≡ k → IfOk (read_as n (OfPlain (read_transport n)) rest) (λ m. Spells m (n ∷ rest))
    transport k within same = record { is_message = (omega (arith, within.0), omega (arith, within.1)); flag = 0; boolean = refl; spelled = refl }

    plain : (k : ℕ) (read : List ℕ → Result PlainMessage Bad) → IfOk (read rest) (IsBehind k rest) → n ≡ k → IfOk (read_as n (OfPlain read) rest) (λ m. Spells m (n ∷ rest))
    plain k read is same = plain_is n read rest (subst (λ k. IfOk (read rest) (IsBehind k rest)) (sym same) is)

    channel : (k : ℕ) (read : List ℕ → Result ChannelMessage Bad) → ((bytes : List ℕ) → AreBytes bytes → IfOk (read bytes) (IsFields k bytes)) → n ≡ k → IfOk (read_as n (OfChannel read) rest) (λ m. Spells m (n ∷ rest))
    channel k read is same = channel_is n read rest h (subst (λ k. (bytes : List ℕ) → AreBytes bytes → IfOk (read bytes) (IsFields k bytes)) (sym same) is)

    success_is : IsBehind number.REQUEST_SUCCESS rest (RequestSuccess rest)
    success_is = record { is_message = tt; flag = 0; boolean = refl; spelled = refl }

    failure_is : IfOk (message_on_end rest 1 RequestFailure) (IsBehind number.REQUEST_FAILURE rest)
    failure_is = end_step (IsBehind number.REQUEST_FAILURE rest) rest 1 RequestFailure (λ e. record { is_message = tt; flag = 0; boolean = refl; spelled = ap (λ x. number.REQUEST_FAILURE ∷ x) e })

    bare : (k : ℕ) (m : ChannelMessage) → IsFields k [] m → n ≡ k → IfOk (read_as n (OfChannel (λ rest. message_on_end rest 5 m)) rest) (λ m. Spells m (n ∷ rest))
    bare k m is = channel k (λ rest. message_on_end rest 5 m) (λ bytes _. bare_is k m bytes is)

    rows : AllByRecursion (λ row. n ≡ row.0 → IfOk (read_as n row.1 rest) (λ m. Spells m (n ∷ rest))) (message_forms n)
    rows = (
      transport 1 (omega arith, omega arith),
      (
        transport 2 (omega arith, omega arith),
        (
          transport 3 (omega arith, omega arith),
          (
            transport 4 (omega arith, omega arith),
            (
              plain number.GLOBAL_REQUEST read_global_request (global_request_is rest h),
              (
                plain number.REQUEST_SUCCESS (λ rest. Ok (RequestSuccess rest)) success_is,
                (
                  plain number.REQUEST_FAILURE (λ rest. message_on_end rest 1 RequestFailure) failure_is,
                  (
                    plain number.CHANNEL_OPEN read_open (open_is rest h),
                    (
                      channel number.CHANNEL_OPEN_CONFIRMATION read_confirmation confirmation_is,
                      (
                        channel number.CHANNEL_OPEN_FAILURE read_open_failure open_failure_is,
                        (
                          channel number.CHANNEL_WINDOW_ADJUST read_adjust adjust_is,
                          (
                            channel number.CHANNEL_DATA read_data data_is,
                            (
                              channel number.CHANNEL_EXTENDED_DATA read_extended extended_is,
                              (
                                bare number.CHANNEL_EOF Eof (record { number = refl; is_message = tt; flag = 0; boolean = λ r. refl; spelled = refl }),
                                (
                                  bare number.CHANNEL_CLOSE Close (record { number = refl; is_message = tt; flag = 0; boolean = λ r. refl; spelled = refl }),
                                  (
                                    channel number.CHANNEL_REQUEST read_request request_is,
                                    (
                                      bare number.CHANNEL_SUCCESS Success (record { number = refl; is_message = tt; flag = 0; boolean = λ r. refl; spelled = refl }),
                                      (
                                        bare number.CHANNEL_FAILURE Failure (record { number = refl; is_message = tt; flag = 0; boolean = λ r. refl; spelled = refl }),
                                        tt,
                                      ),
                                    ),
                                  ),
                                ),
                              ),
                            ),
                          ),
                        ),
                      ),
                    ),
                  ),
                ),
              ),
            ),
          ),
        ),
      ),
    )

-- what reads as a message is a payload of it
pub reads_is_spelled : (p : List ℕ) → AreBytes p → IfOk (read_message p) (λ m. Spells m p)
reads_is_spelled [] h = tt
reads_is_spelled (n ∷ rest) h = message_is n rest h.1
