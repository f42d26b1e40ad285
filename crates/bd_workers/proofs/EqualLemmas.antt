-- When two subtasks are equal.
use Rattle.std.proofs.Common.{◌≡◌, ℕ, Bool, true, false, ◌&&◌, List, refl, sym, ap, ◌∙◌}
use Rattle.std.proofs.lemmas.Bool.{and_parts}
use Rattle.bd_base.specs.Facts.{has, is_subset, IsRising}
use Rattle.bd_base.proofs.FactLemmas.{rising_same}
use Rattle.bd_links.proofs.Members.{has_from_subset}
use Rattle.bd_subtask.specs.declared.parts.SubTask.{SubTask}

both_same : (a b : Bool) → (a ≡ true → b ≡ true) → (b ≡ true → a ≡ true) → a ≡ b
both_same true b h k = sym (h refl)
both_same false true h k = k refl
both_same false false h k = refl

pub sets_same : (s t : List ℕ) → IsRising s → IsRising t → (is_subset s t && is_subset t s) ≡ true → s ≡ t
sets_same s t rs rt e =
    let both = and_parts (is_subset s t) (is_subset t s) e in
    rising_same s t rs rt (λ q. both_same (has s q) (has t q) (has_from_subset s t both.0 q) (has_from_subset t s both.1 q))

abbrev parts : List ℕ → List ℕ → List ℕ → List ℕ → ℕ → SubTask
parts i g m k b = record { init = i; goal = g; make = m; keep = k; bound = b }

pub subtasks_same : (a b : SubTask) → a.bound ≡ b.bound → a.goal ≡ b.goal → a.make ≡ b.make → a.keep ≡ b.keep → a.init ≡ b.init → a ≡ b
subtasks_same a b n g m k i =
    ap (λ z. parts z a.goal a.make a.keep a.bound) i
    ∙ ap (λ z. parts b.init z a.make a.keep a.bound) g
    ∙ ap (λ z. parts b.init b.goal z a.keep a.bound) m
    ∙ ap (λ z. parts b.init b.goal b.make z a.bound) k
    ∙ ap (parts b.init b.goal b.make b.keep) n
