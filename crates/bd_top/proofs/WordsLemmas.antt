-- What is prepared of words, from what is prepared of what they name.
use Rattle.std.proofs.Common.{◌≡◌, ◌∙◌, ap, inl, inr, ℕ, List, Option, Some, None, subst}
use Rattle.std.specs.Prelude.{option_map}
use Rattle.bd_base.specs.Shelf.{Told}
use Rattle.task_inputs.specs.declared.answers.Inputs.{Inputs}
use Rattle.task_inputs.specs.declared.answers.Inputs.TheVariants as inputs
use Rattle.task_inputs.specs.Reads.{Counts}
use Rattle.command_words.specs.Asked.{Asks, Names as TextNames}
use Rattle.command_words.specs.Range.{AreInRange, AreNumbersInRange, IsFrom1To}
use Rattle.command_words.specs.declared.request.Numbers.{Numbers}
use Rattle.command_words.specs.declared.request.Request.{Request}
use Rattle.bd_top.specs.declared.purpose.Purpose.{Purpose}
use Rattle.bd_top.specs.declared.purpose.Purpose.TheVariants as purpose
use Rattle.bd_top.specs.declared.prepare.Prepared.{Prepared}
use Rattle.bd_top.specs.declared.prepare.Prepared.TheVariants as prepared
use Rattle.bd_top.specs.declared.status.Status.{Status}
use Rattle.bd_top.specs.declared.status.Status.TheVariants as status
use Rattle.bd_top.specs.Prepared.{IsErrandsRefusal, IsNamedRefusal, IsRefusal, IsTextsRefusal, IsUsage, Prepares, PreparesErrands, PreparesNamed, PreparesTexts, Tells}
use Rattle.bd_top.specs.Words.{errands_asked, script_named, texts_asked}
use Rattle.bd_top.proofs.CommandLemmas.{NamesNone}

-- no outcome of texts is told as a misuse of words
usage_untold : (names : TextNames) (r : Inputs) (line : List ℕ) → Tells names r status.Usage line → ⊥
usage_untold names (inputs.Unread p missing) line h =
    let bad = h.0 in
    cc
usage_untold names (inputs.Refused p place cause) line h =
    let bad = h.0 in
    cc
usage_untold names (inputs.Over l count) line h =
    let bad = h.0 in
    cc
usage_untold names (inputs.Broken task b) line h =
    let bad = h.0 in
    cc
usage_untold names (inputs.Ready task plan cost) line h = h
usage_untold names inputs.NoMemory line h = h

module _ (words : List (List ℕ)) (tells : List ℕ → Told) (c : Counts) where
  module _ (name : List ℕ) (named : script_named words ≡ Some name) where
    script_refusal : (why : Status) (line : List ℕ) → IsNamedRefusal name (tells name) c why line → IsRefusal words tells c why line
    script_refusal status.Usage line h = absurd h.holds
    script_refusal status.Done line h = inl (record { name = name; named = named; holds = h })
    script_refusal (status.PlanInvalid b) line h = inl (record { name = name; named = named; holds = h })
    script_refusal (status.TextRefused f place cause) line h = inl (record { name = name; named = named; holds = h })
    script_refusal (status.ReadFault n missing) line h = inl (record { name = name; named = named; holds = h })
    script_refusal status.WriteFault line h = inl (record { name = name; named = named; holds = h })
    script_refusal (status.OverLimit l count) line h = inl (record { name = name; named = named; holds = h })
    script_refusal status.NoMemory line h = inl (record { name = name; named = named; holds = h })

    pub script_prepared : (p : Prepared) → PreparesNamed name (tells name) c p → Prepares words tells c p
    script_prepared (prepared.Ready script) h = record { name = name; named = named; holds = h }
    script_prepared (prepared.Refused why line) h = script_refusal why line h
    script_prepared (prepared.Valid cost) h = absurd h
    script_prepared (prepared.Plan task plan span) h = absurd h
    script_prepared (prepared.Improvable task plan numbers) h = absurd h
    script_prepared (prepared.Errands task plan) h = absurd h
    script_prepared prepared.NoMemory h = tt

  module _ (names : TextNames) (aim : Purpose) (asked : texts_asked words ≡ Some (names, aim)) (ranges : (numbers : Numbers) → aim ≡ purpose.Improve numbers → AreNumbersInRange numbers) where
    named : option_map (λ a. a.0) (texts_asked words) ≡ Some names
    named = ap (λ (o : Option (TextNames × Purpose)). option_map (λ a. a.0) o) asked

    aims : option_map (λ a. a.1) (texts_asked words) ≡ Some aim
    aims = ap (λ (o : Option (TextNames × Purpose)). option_map (λ a. a.1) o) asked

    texts_refusal : (why : Status) (line : List ℕ) → IsTextsRefusal names tells c why line → IsRefusal words tells c why line
    texts_refusal status.Usage line h = absurd (usage_untold names h.result line h.told)
    texts_refusal status.Done line h = inr (inl (record { names = names; named = named; holds = h }))
    texts_refusal (status.PlanInvalid b) line h = inr (inl (record { names = names; named = named; holds = h }))
    texts_refusal (status.TextRefused f place cause) line h = inr (inl (record { names = names; named = named; holds = h }))
    texts_refusal (status.ReadFault n missing) line h = inr (inl (record { names = names; named = named; holds = h }))
    texts_refusal status.WriteFault line h = inr (inl (record { names = names; named = named; holds = h }))
    texts_refusal (status.OverLimit l count) line h = inr (inl (record { names = names; named = named; holds = h }))
    texts_refusal status.NoMemory line h = inr (inl (record { names = names; named = named; holds = h }))

    pub texts_prepared : (p : Prepared) → PreparesTexts aim names tells c p → Prepares words tells c p
    texts_prepared (prepared.Ready script) h = absurd h
    texts_prepared (prepared.Valid cost) h = (aims ∙ ap Some h.0, record { names = names; named = named; holds = h.1 })
    texts_prepared (prepared.Plan task plan n) h = (aims ∙ ap Some h.0, record { names = names; named = named; holds = h.1 })
    texts_prepared (prepared.Improvable task plan numbers) h = (aims ∙ ap Some h.0, record { names = names; named = named; holds = h.1 }, ranges numbers h.0)
    texts_prepared (prepared.Errands task plan) h = absurd h
    texts_prepared (prepared.Refused why line) h = texts_refusal why line h
    texts_prepared prepared.NoMemory h = tt

  module _ (size : ℕ) (asked : errands_asked words ≡ Some size) (few : IsFrom1To 600 size) where
    errands_refusal : (why : Status) (line : List ℕ) → IsErrandsRefusal size why line → IsRefusal words tells c why line
    errands_refusal status.Usage line h = absurd (usage_untold h.names h.result line h.told)
    errands_refusal status.Done line h = inr (inr (record { size = size; asked = asked; few = few; holds = h }))
    errands_refusal (status.PlanInvalid b) line h = inr (inr (record { size = size; asked = asked; few = few; holds = h }))
    errands_refusal (status.TextRefused f place cause) line h = inr (inr (record { size = size; asked = asked; few = few; holds = h }))
    errands_refusal (status.ReadFault n missing) line h = inr (inr (record { size = size; asked = asked; few = few; holds = h }))
    errands_refusal status.WriteFault line h = inr (inr (record { size = size; asked = asked; few = few; holds = h }))
    errands_refusal (status.OverLimit l count) line h = inr (inr (record { size = size; asked = asked; few = few; holds = h }))
    errands_refusal status.NoMemory line h = inr (inr (record { size = size; asked = asked; few = few; holds = h }))

    pub errands_prepared : (p : Prepared) → PreparesErrands size p → Prepares words tells c p
    errands_prepared (prepared.Errands task plan) h = record { size = size; asked = asked; few = few; holds = h }
    errands_prepared (prepared.Refused why line) h = errands_refusal why line h
    errands_prepared prepared.NoMemory h = tt
    errands_prepared p h = absurd h

  pub misused_prepared : NamesNone words → (p : Prepared) → IsUsage p → Prepares words tells c p
  misused_prepared none (prepared.Refused status.Usage line) h =
      (none.script, ap (λ (o : Option (TextNames × Purpose)). option_map (λ a. a.0) o) none.texts, none.errands, h)
  misused_prepared none prepared.NoMemory h = tt
  misused_prepared none p h = absurd h

-- what is asked, where it is told which request it is
pub asks_this : (words : List (List ℕ)) (o : Option Request) (r s : Request) → o ≡ Some r → r ≡ s → Asks words o → Asks words (Some s)
asks_this words o r s e f h = subst (λ (x : Option Request). Asks words x) (e ∙ ap (λ (x : Request). Some x) f) h

pub ranges_this : (o : Option Request) (r s : Request) → o ≡ Some r → r ≡ s → AreInRange o → AreInRange (Some s)
ranges_this o r s e f h = subst (λ (x : Option Request). AreInRange x) (e ∙ ap (λ (x : Request). Some x) f) h

-- numbers are asked for an improvement alone
pub no_check : (numbers : Numbers) → purpose.Check ≡ purpose.Improve numbers → AreNumbersInRange numbers
no_check numbers e = absurd cc

pub no_deorder : (span : ℕ) (numbers : Numbers) → purpose.Deorder span ≡ purpose.Improve numbers → AreNumbersInRange numbers
no_deorder span numbers e = absurd cc

pub these_numbers : (asked numbers : Numbers) → AreNumbersInRange asked → purpose.Improve asked ≡ purpose.Improve numbers → AreNumbersInRange numbers
these_numbers asked numbers h e = subst AreNumbersInRange (same asked numbers e) h
  where
    same : (a b : Numbers) → purpose.Improve a ≡ purpose.Improve b → a ≡ b
    same a b e = cc

pub asks_none : (words : List (List ℕ)) (o : Option Request) → o ≡ None → Asks words o → Asks words None
asks_none words o e h = subst (λ (x : Option Request). Asks words x) e h
