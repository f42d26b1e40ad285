-- Rows end where the numbers end.
use Rattle.std.proofs.Common.{◌≡◌, ℕ, List, [], ◌∷◌, ◌++◌, Option, length, sym, ◌∙◌, arith}
use Rattle.std.proofs.lemmas.List.{append-nil}
use Rattle.pddl_types.specs.declared.domains.TypeDecl.{TypeDecl}
use Rattle.pddl_domain.specs.Whole.{types_of}

pub types_end : (done : List TypeDecl) (names : List (List ℕ)) (parents : List (Option ℕ)) (all : List TypeDecl) → length parents ≡ 0 → done ++ types_of names parents ≡ all → done ≡ all
types_end done [] parents all e h = sym (append-nil done) ∙ h
types_end done (n ∷ names) [] all e h = sym (append-nil done) ∙ h
types_end done (n ∷ names) (k ∷ parents) all e h = absurd (omega (arith, e))
