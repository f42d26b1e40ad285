-- The calls of a plan, found one by one.
use Rattle.std.proofs.Common.{◌≡◌, ℕ, true, zero, suc, ◌+◌, ◌<◌, ◌≤◌, List, [], ◌∷◌, ◌++◌, map, take, drop, length, Option, Some, None, slice_get, get_or, refl, sym, ap, ◌∙◌, subst, arith}
use Rattle.std.specs.List.{AllByRecursion}
use Rattle.std.specs.Prelude.{All}
use Rattle.std.proofs.lemmas.List.{map-append, take-append-drop}
use Rattle.std.proofs.lemmas.List.Elements.{All-from_recursion}
use Rattle.bd_task.specs.declared.ground.Action.{Action}
use Rattle.pddl_types.specs.declared.domains.Domain.{Domain}
use Rattle.pddl_types.specs.declared.problems.Problem.{Problem}
use Rattle.pddl_types.specs.declared.calls.Call.{Call}
use Rattle.std.specs.Str.{bytes_eq}
use Rattle.std.proofs.lemmas.Bool.{or_left, or_right}
use Rattle.bd_ground.specs.Atoms.{same_atom, is_among, mentioned_after}
use Rattle.bd_ground.proofs.AtomLemmas.{same-refl, is_among-mentioned_after}
use Rattle.bd_ground.proofs.MemberLemmas.{some_is, none_some}
use Rattle.plan_calls.specs.Judging.{judged}
use Rattle.plan_calls.specs.Finding.{call_text, found}
use Rattle.plan_calls.specs.Agreement.{IsThere}
use Rattle.plan_calls.specs.Listing.{cause_of, IsFirstMissing}
use Rattle.plan_calls.proofs.PlaceLemmas.{below_from, drop-at, take-at, take-length, place_in}

get_is : {X : Type 0} (xs : List X) (i : ℕ) (d : X) → i < length xs → slice_get xs i ≡ Some (get_or xs i d)
get_is [] i d lt = absurd (omega arith)
get_is (x ∷ xs) zero d lt = refl
get_is (x ∷ xs) (suc i) d lt = get_is xs i d (omega arith)

pub get_there : {X : Type 0} (xs : List X) (i : ℕ) (x d : X) → i < length xs → x ≡ get_or xs i d → slice_get xs i ≡ Some x
get_there xs i x d lt e = get_is xs i d lt ∙ ap (λ z. Some z) (sym e)

-- a walk that answers each element in turn
pub mapped-next : {X Y : Type 0} (f : X → Y) (xs : List X) (i : ℕ) (x : X) (before new : List Y) (y : Y) → i < length xs → x ≡ get_or xs i x → before ≡ map f (take i xs) → new ≡ before ++ y ∷ [] → y ≡ f x → new ≡ map f (take (i + 1) xs)
mapped-next f xs i x before new y lt at e made is =
    made ∙ ap (λ z. z ++ y ∷ []) e ∙ ap (λ z. map f (take i xs) ++ z ∷ []) is
    ∙ sym (ap (λ z. map f z) (take-at xs i x (get_there xs i x x lt at)) ∙ map-append f (take i xs) (x ∷ []))

-- the text of a call of the list is among the calls' texts
pub among_texts : (calls : List Call) (i : ℕ) (call : Call) → slice_get calls i ≡ Some call → is_among (call_text call) (map (λ c. call_text c) calls) ≡ true
among_texts [] i call e = absurd (none_some call e)
among_texts (c ∷ calls) zero call e = or_left _ _ (ap (λ (z : Call). same_atom (call_text call) (call_text z)) (some_is c call e) ∙ same-refl (call_text call))
among_texts (c ∷ calls) (suc i) call e = or_right _ _ (among_texts calls i call e)

pub among_known : (texts : List (List ℕ)) (calls : List Call) (i : ℕ) (call : Call) → texts ≡ mentioned_after [] (map (λ c. call_text c) calls) → i < length calls → call ≡ get_or calls i call → is_among (call_text call) texts ≡ true
among_known texts calls i call e lt at =
    ap (λ z. is_among (call_text call) z) e ∙ is_among-mentioned_after (call_text call) [] (map (λ c. call_text c) calls) ∙ among_texts calls i call (get_there calls i call call lt at)

module _ (actions : List Action) where
  -- the answer of a list of answers is that of its call
  pub answer_is : (calls : List Call) (i : ℕ) (call : Call) → slice_get calls i ≡ Some call → get_or (map (λ c. found actions c) calls) i None ≡ found actions call
  answer_is [] i call e = absurd (none_some call e)
  answer_is (c ∷ calls) zero call e = ap (λ (z : Call). found actions z) (some_is c call e)
  answer_is (c ∷ calls) (suc i) call e = answer_is calls i call e

  pub listed-next : (calls : List Call) (i a : ℕ) (call : Call) (list new : List ℕ) → slice_get calls i ≡ Some call → found actions call ≡ Some a → map (λ c. found actions c) (take i calls) ≡ map (λ a. Some a) list → new ≡ list ++ a ∷ [] →
      map (λ c. found actions c) (take (i + 1) calls) ≡ map (λ a. Some a) new
  listed-next calls i a call list new e f before made =
      ap (λ (z : List Call). map (λ c. found actions c) z) (take-at calls i call e)
      ∙ map-append (λ c. found actions c) (take i calls) (call ∷ [])
      ∙ ap (λ z. z ++ found actions call ∷ []) before
      ∙ ap (λ z. map (λ a. Some a) list ++ z ∷ []) f
      ∙ sym (ap (λ z. map (λ a. Some a) z) made ∙ map-append (λ a. Some a) list (a ∷ []))

  all_there : (calls : List Call) (list : List ℕ) → map (λ c. found actions c) calls ≡ map (λ a. Some a) list → AllByRecursion (λ c. IsThere (found actions c)) calls
  all_there [] list e = tt
  all_there (c ∷ calls) [] e = absurd (nothing e)
    where
      nothing : {X : Type 0} {x : X} {xs : List X} → x ∷ xs ≡ [] → ⊥
      nothing e = cc
  all_there (c ∷ calls) (a ∷ list) e = (subst IsThere (sym (head e)) tt, all_there calls list (tail e))
    where
      head : {x y : Option ℕ} {xs ys : List (Option ℕ)} → x ∷ xs ≡ y ∷ ys → x ≡ y
      head e = cc

      tail : {x y : Option ℕ} {xs ys : List (Option ℕ)} → x ∷ xs ≡ y ∷ ys → xs ≡ ys
      tail e = cc

  pub first_missing : (d : Domain) (p : Problem) (calls : List Call) (i : ℕ) (call : Call) (list : List ℕ) → slice_get calls i ≡ Some call → map (λ c. found actions c) (take i calls) ≡ map (λ a. Some a) list → found actions call ≡ None →
      IsFirstMissing d p actions calls call.place (cause_of (judged d p call))
  first_missing d p calls i call list e before none = record {
    front = take i calls;
    call = call;
    rest = drop (i + 1) calls;
    split = (sym (take-append-drop i calls) ∙ ap (λ (z : List Call). take i calls ++ z) (drop-at calls i call e));
    there = all_there (take i calls) list before;
    missing = none;
    at = refl;
    told = refl;
  }

  below : (calls : List Call) (list : List ℕ) → map (λ c. found actions c) calls ≡ map (λ a. Some a) list → AllByRecursion (λ a. a < length actions) list
  below calls [] e = tt
  below [] (a ∷ list) e = absurd (nothing e)
    where
      nothing : {X : Type 0} {x : X} {xs : List X} → [] ≡ x ∷ xs → ⊥
      nothing e = cc
  below (c ∷ calls) (a ∷ list) e = (
    let r = place_in (λ (x : Action). bytes_eq x.name (call_text c)) actions a (head e) in
        below_from actions a r.0 r.3,
    below calls list (tail e),
  )
    where
      head : {x y : Option ℕ} {xs ys : List (Option ℕ)} → x ∷ xs ≡ y ∷ ys → x ≡ y
      head e = cc

      tail : {x y : Option ℕ} {xs ys : List (Option ℕ)} → x ∷ xs ≡ y ∷ ys → xs ≡ ys
      tail e = cc

  pub listed_all : (calls : List Call) (n : ℕ) (list : List ℕ) → length calls ≤ n → map (λ c. found actions c) (take n calls) ≡ map (λ a. Some a) list → map (λ c. found actions c) calls ≡ map (λ a. Some a) list
  listed_all calls n list le e = ap (λ (z : List Call). map (λ c. found actions c) z) (sym (take-length calls n le)) ∙ e

  pub listed_below : (calls : List Call) (n : ℕ) (list : List ℕ) → length calls ≤ n → map (λ c. found actions c) (take n calls) ≡ map (λ a. Some a) list → All (λ a. a < length actions) list
  listed_below calls n list le e = All-from_recursion (λ a. a < length actions) list (below calls list (listed_all calls n list le e))
