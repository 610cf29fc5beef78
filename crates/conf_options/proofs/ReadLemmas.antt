-- A line is read by the form of its key.
use Rattle.std.proofs.Common.{◌≡◌, true, List, Result, Ok, Err, refl, sym, ap, ◌∙◌, subst}
use Rattle.std.specs.Prelude.{IfOk}
use Rattle.conf_rules.specs.declared.key.Key.{Key}
use Rattle.conf_rules.specs.declared.value.Value.{Value}
use Rattle.conf_rules.specs.declared.value.Value.TheVariants.{Word}
use Rattle.conf_rules.specs.declared.causes.ValueError.{ValueError}
use Rattle.conf_rules.specs.Texts.{Bytes}
use Rattle.conf_rules.specs.Kinds.{value_kind}
use Rattle.conf_rules.specs.Values.{values_of, value_for}
use Rattle.conf_options.specs.declared.forms.Form.{Form}
use Rattle.conf_options.specs.declared.forms.Form.TheVariants as forms
use Rattle.conf_rules.specs.Fits.{fits}
use Rattle.conf_rules.specs.Results.{GivesReading}
use Rattle.conf_rules.specs.Wants.{value_wants_memory}
use Rattle.conf_options.specs.Forms.{form_kind}
use Rattle.conf_options.proofs.FitLemmas.{said, value-fits}

pub raw-read : (key : Key) (form : Form) (rest text : Bytes) (words : List Bytes) → value_kind key ≡ form_kind form → form ≡ forms.Raw → text ≡ rest → value_for key rest words ≡ Ok (Word text)
unfolding said
raw-read key form rest text words e f t = ap (λ k. said k rest words) (e ∙ ap form_kind f) ∙ ap (λ x. Ok (Word x)) (sym t)

said-form : (form : Form) (rest : Bytes) (words : List Bytes) → (form ≡ forms.Raw → ⊥) → said (form_kind form) rest words ≡ values_of (form_kind form) words
unfolding said
said-form forms.Flag rest words n = refl
said-form (forms.Number low high) rest words n = refl
said-form forms.Time rest words n = refl
said-form (forms.Choice choices) rest words n = refl
said-form forms.OneWord rest words n = refl
said-form forms.HostWord rest words n = refl
said-form forms.Raw rest words n = absurd (n refl)
said-form forms.FlagOrWord rest words n = refl
said-form (forms.FlagOrChoice choices) rest words n = refl
said-form forms.Names rest words n = refl
said-form forms.TwoEnds rest words n = refl
said-form forms.OneOrTwoEnds rest words n = refl
said-form forms.PortAlone rest words n = refl

pub other-read : (key : Key) (form : Form) (rest : Bytes) (words : List Bytes) → value_kind key ≡ form_kind form → (form ≡ forms.Raw → ⊥) → value_for key rest words ≡ values_of (form_kind form) words
unfolding said
other-read key form rest words e n = ap (λ k. said k rest words) e ∙ said-form form rest words n

pub read-other : (r : Result Value ValueError) (key : Key) (form : Form) (rest : Bytes) (words given : List Bytes) → value_kind key ≡ form_kind form → (form ≡ forms.Raw → ⊥) → given ≡ words → GivesReading value_wants_memory r (values_of (form_kind form) given) → GivesReading value_wants_memory r (value_for key rest words)
read-other r key form rest words given e n w g = subst (λ (x : Result Value ValueError). GivesReading value_wants_memory r x) (sym (other-read key form rest words e n ∙ ap (values_of (form_kind form)) (sym w))) g

pub given-fits : (r : Result Value ValueError) (key : Key) (rest : Bytes) (words : List Bytes) → GivesReading value_wants_memory r (value_for key rest words) → IfOk r (λ v. fits key v ≡ true)
given-fits (Ok v) key rest words g = value-fits key rest words v g
given-fits (Err e) key rest words g = tt
