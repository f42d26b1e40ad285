-- Which actions have which names first, noted in the order of the actions.
use Rattle.std.proofs.Common.{◌≡◌, ℕ, zero, suc, ◌+◌, ◌<◌, ◌≤◌, Bool, true, false, cond, ◌||◌, List, [], ◌∷◌, length, take, Option, Some, None, slice_get, get_or, set, refl, sym, ap, ◌∙◌, subst, arith}
use Rattle.std.specs.Str.{bytes_eq}
use Rattle.std.proofs.lemmas.Bool.{both_ways}
use Rattle.std.proofs.lemmas.List.{length-set}
use Rattle.bd_task.specs.declared.ground.Action.{Action}
use Rattle.bd_ground.specs.Atoms.{same_atom, is_among, number_of}
use Rattle.bd_ground.proofs.AtomLemmas.{same-refl, same_is, number-same}
use Rattle.bd_ground.proofs.TableLemmas.{some_number}
use Rattle.bd_ground.proofs.MemberLemmas.{none_some}
use Rattle.plan_calls.specs.Places.{first_place, noted as noted_by}
use Rattle.plan_calls.specs.Finding.{action_named}
use Rattle.plan_calls.proofs.PlaceLemmas.{below_from, take-at, length-taken, take-length, place-append}

pub record AreNoted (texts : List (List ℕ)) (actions : List Action) (places : List (Option ℕ)) : Type 0 where
  pub sized : length places ≡ length texts
  pub noted : (name : List ℕ) → is_among name texts ≡ true → get_or places (number_of texts name) None ≡ action_named actions name

pub noted_start : (texts : List (List ℕ)) (actions : List Action) (places : List (Option ℕ)) → length places ≡ length texts → ((k : ℕ) → get_or places k None ≡ None) → AreNoted texts (take 0 actions) places
noted_start texts actions places e none = record { sized = e; noted = λ name i. none (number_of texts name) }

get-set : (places : List (Option ℕ)) (k j : ℕ) (v : Option ℕ) → (k ≡ j → ⊥) → get_or (set places k v) j None ≡ get_or places j None
get-set [] k j v ne = refl
get-set (p ∷ places) zero zero v ne = absurd (ne refl)
get-set (p ∷ places) zero (suc j) v ne = refl
get-set (p ∷ places) (suc k) zero v ne = refl
get-set (p ∷ places) (suc k) (suc j) v ne = get-set places k j v (λ e. ne (ap (λ z. suc z) e))

get-set_here : (places : List (Option ℕ)) (k : ℕ) (v : Option ℕ) → k < length places → get_or (set places k v) k None ≡ v
get-set_here [] k v lt = absurd (omega arith)
get-set_here (p ∷ places) zero v lt = refl
get-set_here (p ∷ places) (suc k) v lt = get-set_here places k v (omega arith)

number_below : (texts : List (List ℕ)) (g : List ℕ) → is_among g texts ≡ true → number_of texts g < length texts
number_below [] g e = absurd (both_ways false refl e)
number_below (h ∷ texts) g e = by_test (same_atom g h) e (number_below texts g)
  where
    by_test : (b : Bool) → (b || is_among g texts) ≡ true → (is_among g texts ≡ true → number_of texts g < length texts) → cond b 0 (1 + number_of texts g) < suc (length texts)
    by_test true f more = omega arith
    by_test false f more = let m = more f in omega arith

first-none : (r : Option ℕ) → first_place r None ≡ r
first-none None = refl
first-none (Some k) = refl

named-next : (actions : List Action) (i : ℕ) (x : Action) (name : List ℕ) → slice_get actions i ≡ Some x → action_named (take (i + 1) actions) name ≡ first_place (action_named (take i actions) name) (cond (bytes_eq x.name name) (Some i) None)
named-next actions i x name e =
    ap (λ (z : List Action). action_named z name) (take-at actions i x e)
    ∙ place-append (λ (a : Action). bytes_eq a.name name) (take i actions) x
    ∙ ap (λ n. first_place (action_named (take i actions) name) (cond (bytes_eq x.name name) (Some n) None)) (length-taken actions i (let m = below_from actions i x e in omega arith))

-- an action whose name is no text's
pub noted_skip : (texts : List (List ℕ)) (actions : List Action) (places : List (Option ℕ)) (i : ℕ) (x : Action) → slice_get actions i ≡ Some x → None ≡ cond (is_among x.name texts) (Some (number_of texts x.name)) None → AreNoted texts (take i actions) places → AreNoted texts (take (i + 1) actions) places
noted_skip texts actions places i x e none before = record {
  sized = before.sized;
  noted = λ name at.
      (before.noted name at ∙ sym (named-next actions i x name e ∙ ap (λ b. first_place (action_named (take i actions) name) (cond b (Some i) None)) (other name at) ∙ first-none (action_named (take i actions) name)));
}
  where
    out : is_among x.name texts ≡ false
    out = by_test (is_among x.name texts) none
      where
        by_test : (b : Bool) → None ≡ cond b (Some (number_of texts x.name)) None → b ≡ false
        by_test true f = absurd (none_some _ f)
        by_test false f = refl

    other : (name : List ℕ) → is_among name texts ≡ true → bytes_eq x.name name ≡ false
    other name at = by_test (bytes_eq x.name name) refl
      where
        by_test : (b : Bool) → bytes_eq x.name name ≡ b → b ≡ false
        by_test true f = absurd (both_ways (is_among x.name texts) out (subst (λ z. is_among z texts ≡ true) (sym (same_is x.name name f)) at))
        by_test false f = refl

-- an action whose name is a text's
pub noted_put : (texts : List (List ℕ)) (actions : List Action) (places new : List (Option ℕ)) (i k : ℕ) (x : Action) → slice_get actions i ≡ Some x → Some k ≡ cond (is_among x.name texts) (Some (number_of texts x.name)) None →
    new ≡ set places k (first_place (get_or places k None) (Some i)) → AreNoted texts (take i actions) places → AreNoted texts (take (i + 1) actions) new
noted_put texts actions places new i k x e at made before = record {
  sized = (let l : length new ≡ length places = ap length made ∙ length-set places k (first_place (get_or places k None) (Some i)) in l ∙ before.sized);
  noted = λ name here.
      (ap (λ z. get_or z (number_of texts name) None) (made ∙ ap (λ z. set places z (first_place (get_or places z None) (Some i))) number)
      ∙ by_test name here (bytes_eq x.name name) refl
      ∙ sym (named-next actions i x name e));
}
  where
    number : k ≡ number_of texts x.name
    number = some_number x.name texts k at

    among : is_among x.name texts ≡ true
    among = by_value (is_among x.name texts) at
      where
        by_value : (b : Bool) → Some k ≡ cond b (Some (number_of texts x.name)) None → b ≡ true
        by_value true f = refl
        by_value false f = absurd (none_some _ (sym f))

    by_test : (name : List ℕ) → is_among name texts ≡ true → (b : Bool) → bytes_eq x.name name ≡ b →
        get_or (set places (number_of texts x.name) (first_place (get_or places (number_of texts x.name) None) (Some i))) (number_of texts name) None ≡ first_place (action_named (take i actions) name) (cond b (Some i) None)
    by_test name here true f =
        let same : x.name ≡ name = same_is x.name name f in
        ap (λ z. get_or (set places (number_of texts z) (first_place (get_or places (number_of texts z) None) (Some i))) (number_of texts name) None) same
        ∙ get-set_here places (number_of texts name) (first_place (get_or places (number_of texts name) None) (Some i)) (let b = number_below texts name here in omega (arith, b, before.sized))
        ∙ ap (λ r. first_place r (Some i)) (before.noted name here)
    by_test name here false f =
        get-set places (number_of texts x.name) (number_of texts name) (first_place (get_or places (number_of texts x.name) None) (Some i))
        (λ g. both_ways (bytes_eq x.name name) f (subst (λ z. bytes_eq x.name z ≡ true) (number-same texts x.name name among g) (same-refl x.name)))
        ∙ before.noted name here ∙ sym (first-none (action_named (take i actions) name))

pub noted_all : (texts : List (List ℕ)) (actions : List Action) (places : List (Option ℕ)) (n : ℕ) → length actions ≤ n → AreNoted texts (take n actions) places →
    (name : List ℕ) → is_among name texts ≡ true → get_or places (number_of texts name) None ≡ action_named actions name
noted_all texts actions places n le before name at = before.noted name at ∙ ap (λ (z : List Action). action_named z name) (take-length actions n le)

pub number_in : (texts : List (List ℕ)) (places : List (Option ℕ)) (g : List ℕ) (k : ℕ) → length places ≡ length texts → Some k ≡ cond (is_among g texts) (Some (number_of texts g)) None → k < length places
number_in texts places g k sized e = by_value (is_among g texts) refl e
  where
    by_value : (b : Bool) → is_among g texts ≡ b → Some k ≡ cond b (Some (number_of texts g)) None → k < length places
    by_value true f h = let b = number_below texts g f in let s = some_number g texts k e in omega (arith, b, s, sized)
    by_value false f h = absurd (none_some _ (sym h))

-- one more action is noted
pub noted-next : (texts : List (List ℕ)) (actions : List Action) (places new : List (Option ℕ)) (i : ℕ) (x : Action) → slice_get actions i ≡ Some x →
    new ≡ noted_by places (cond (is_among x.name texts) (Some (number_of texts x.name)) None) i → AreNoted texts (take i actions) places → AreNoted texts (take (i + 1) actions) new
noted-next texts actions places new i x e made before = by_value (cond (is_among x.name texts) (Some (number_of texts x.name)) None) refl made
  where
    by_value : (r : Option ℕ) → r ≡ cond (is_among x.name texts) (Some (number_of texts x.name)) None → new ≡ noted_by places r i → AreNoted texts (take (i + 1) actions) new
    by_value None f g = subst (λ z. AreNoted texts (take (i + 1) actions) z) (sym g) (noted_skip texts actions places i x e f before)
    by_value (Some k) f g = noted_put texts actions places new i k x e f g before
