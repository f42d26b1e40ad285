-- What the words ask for is a script, or three texts with a purpose, or generated errands, or nothing; and never two of these.
use Rattle.std.proofs.Common.{◌≡◌, ◌∙◌, ap, ℕ, List, Option, Some, None, refl, sym}
use Rattle.std.specs.Prelude.{option_map}
use Rattle.command_words.specs.Asked.{AskNothing, Names, bench_asked, check_asked, deorder_asked, improve_asked, replay_asked}
use Rattle.command_words.specs.declared.request.Numbers.{Numbers}
use Rattle.command_words.proofs.Laws.{deorder_alone, replay_alone, improve_alone, bench_alone}
use Rattle.bd_top.specs.declared.purpose.Purpose.{Purpose}
use Rattle.bd_top.specs.declared.purpose.Purpose.TheVariants as purpose
use Rattle.bd_top.specs.Words.{errands_asked, script_named, texts_asked, texts_by, texts_named}

by_three : (words : List (List ℕ)) → texts_asked words ≡ texts_by (check_asked words) (deorder_asked words) (improve_asked words)
unfolding texts_asked
by_three words = refl

by_script : (words : List (List ℕ)) → script_named words ≡ replay_asked words
unfolding script_named
by_script words = refl

by_errands : (words : List (List ℕ)) → errands_asked words ≡ bench_asked words
unfolding errands_asked
by_errands words = refl

unchecked : (words : List (List ℕ)) → check_asked words ≡ None → texts_asked words ≡ texts_by None (deorder_asked words) (improve_asked words)
unchecked words none = by_three words ∙ ap (λ o. texts_by o (deorder_asked words) (improve_asked words)) none

pub asked_check : (words : List (List ℕ)) (names : Names) → check_asked words ≡ Some names → texts_asked words ≡ Some (names, purpose.Check)
asked_check words names is = by_three words ∙ ap (λ o. texts_by o (deorder_asked words) (improve_asked words)) is

pub asked_deorder : (words : List (List ℕ)) (names : Names) (span : ℕ) → deorder_asked words ≡ Some (names, span) → texts_asked words ≡ Some (names, purpose.Deorder span)
asked_deorder words names span is = unchecked words (deorder_alone words (names, span) is).check ∙ ap (λ o. texts_by None o (improve_asked words)) is

pub asked_improve : (words : List (List ℕ)) (names : Names) (numbers : Numbers) → improve_asked words ≡ Some (names, numbers) → texts_asked words ≡ Some (names, purpose.Improve numbers)
asked_improve words names numbers is =
    let alone = improve_alone words (names, numbers) is in
    unchecked words alone.check ∙ ap (λ o. texts_by None o (improve_asked words)) alone.deorder ∙ ap (λ o. texts_by None None o) is

pub asked_script : (words : List (List ℕ)) (name : List ℕ) → replay_asked words ≡ Some name → script_named words ≡ Some name
asked_script words name is = by_script words ∙ is

pub asked_bench : (words : List (List ℕ)) (size : ℕ) → bench_asked words ≡ Some size → errands_asked words ≡ Some size
asked_bench words size is = by_errands words ∙ is

-- neither a script nor texts nor errands
pub record NamesNone (words : List (List ℕ)) : Type 0 where
  pub script : script_named words ≡ None
  pub texts : texts_asked words ≡ None
  pub errands : errands_asked words ≡ None

no_texts : (words : List (List ℕ)) → check_asked words ≡ None → deorder_asked words ≡ None → improve_asked words ≡ None → texts_asked words ≡ None
no_texts words check deorder improve = unchecked words check ∙ ap (λ o. texts_by None o (improve_asked words)) deorder ∙ ap (λ o. texts_by None None o) improve

pub asked_nothing : (words : List (List ℕ)) → AskNothing words → NamesNone words
asked_nothing words h = record { script = by_script words ∙ h.replay; texts = no_texts words h.check h.deorder h.improve; errands = by_errands words ∙ h.bench }

none_some : {A : Type 0} (a : A) → None ≡ Some a → ⊥
none_some a e = cc

texts_gone : (words : List (List ℕ)) (names : Names) → texts_asked words ≡ None → texts_named words ≡ Some names → ⊥
texts_gone words names none named = none_some names (sym (ap (λ (o : Option (Names × Purpose)). option_map (λ asked. asked.0) o) none) ∙ named)

pub one_command : (words : List (List ℕ)) (name : List ℕ) (names : Names) → script_named words ≡ Some name → texts_named words ≡ Some names → ⊥
one_command words name names e f =
    let alone = replay_alone words name (sym (by_script words) ∙ e) in
    texts_gone words names (no_texts words alone.check alone.deorder alone.improve) f

-- who asks for errands names no script, and no texts
module _ (words : List (List ℕ)) (size : ℕ) (asked : errands_asked words ≡ Some size) where
  pub errands_no_script : (name : List ℕ) → script_named words ≡ Some name → ⊥
  errands_no_script name named =
      let alone = bench_alone words size (sym (by_errands words) ∙ asked) in
      none_some name (sym (by_script words ∙ alone.replay) ∙ named)

  pub errands_no_texts : (names : Names) → texts_named words ≡ Some names → ⊥
  errands_no_texts names named =
      let alone = bench_alone words size (sym (by_errands words) ∙ asked) in
      texts_gone words names (no_texts words alone.check alone.deorder alone.improve) named
