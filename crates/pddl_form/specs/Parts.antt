-- The parts of a condition or an effect: what stands in it under `and` alone, in text order.
use Rattle.std.specs.Prelude.{cond, List, [], ◌∷◌, ◌++◌, map, codes}
use Rattle.pddl_lex.specs.declared.sexp.Sexp.{Sexp, Word, List as ListOf}
use Rattle.pddl_lex.specs.declared.sexp.Sexp.TheOpen.{Sexp-F}
use Rattle.pddl_lex.specs.declared.sexp.Sexp.TheFolds.{para-Sexp}
use Rattle.pddl_form.specs.Trees.{is_word}

abbrev pub joined : List (List Sexp) → List Sexp
joined [] = []
joined (xs ∷ xss) = xs ++ joined xss

-- by the kids with their parts: `()` has none, `(and ..)` those of its items, and else it is one itself
abbrev pub parts_step : Sexp-F (Sexp × List Sexp) → List Sexp
parts_step (Sexp-F.Word place text) = Word place text ∷ []
parts_step (Sexp-F.List place []) = []
parts_step (Sexp-F.List place (k ∷ ks)) = cond (is_word (codes "and") k.0) (joined (map (λ k. k.1) ks)) (ListOf place (k.0 ∷ map (λ k. k.0) ks) ∷ [])

abbrev pub parts_of : Sexp → List Sexp
parts_of = para-Sexp (List Sexp) parts_step
