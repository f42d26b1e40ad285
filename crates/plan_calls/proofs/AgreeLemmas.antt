-- A call is found exactly where it is judged an instance with a cost.
use Rattle.std.proofs.Common.{◌≡◌, ℕ, zero, suc, ◌+◌, ◌<◌, ◌≤◌, Bool, true, false, cond, not, ◌&&◌, List, [], ◌∷◌, ◌++◌, length, map, filter, Option, Some, None, refl, sym, ap, ◌∙◌, subst, inl, inr, arith}
use Rattle.std.specs.List.{list_all, flat_map, filter_map, cons_option, AllByRecursion}
use Rattle.std.specs.Option.{option_map, option_map_or}
use Rattle.std.specs.Str.{bytes_eq}
use Rattle.std.proofs.lemmas.Bool.{and_parts, both_ways, cases_lt}
use Rattle.std.proofs.lemmas.List.{length-map}
use Rattle.bd_base.specs.Bits.{upto}
use Rattle.bd_task.specs.declared.ground.Action.{Action}
use Rattle.pddl_types.specs.declared.domains.Thing.{Thing}
use Rattle.pddl_types.specs.declared.domains.TypeDecl.{TypeDecl}
use Rattle.pddl_types.specs.declared.domains.Schema.{Schema}
use Rattle.pddl_types.specs.declared.domains.Domain.{Domain}
use Rattle.pddl_types.specs.declared.problems.Problem.{Problem}
use Rattle.pddl_types.specs.declared.calls.Call.{Call}
use Rattle.pddl_types.specs.Readable.{IsSchema, IsDomain, AreNamed}
use Rattle.bd_ground.specs.Atoms.{is_same}
use Rattle.bd_ground.specs.Instances.{things_of, fits, all_fit, is_met, is_instance, argument_lists, objects_of, instances, cost_of, Instance, priced, priced_instances, task_instances}
use Rattle.bd_ground.specs.Task.{thing_name, action_of, fact_atoms, ground_task}
use Rattle.bd_ground.proofs.MemberLemmas.{In, here, there, some_is, none_some, in_cons, in_filter, in_flat_map, in_filter_map}
use Rattle.bd_ground.proofs.AtomLemmas.{same-refl, same_is}
use Rattle.plan_calls.specs.declared.judging.Judged.TheVariants as verdict
use Rattle.plan_calls.specs.Judging.{schema_named, thing_named, with_number, things_named, judged_cost, judged_by, judged}
use Rattle.plan_calls.specs.Finding.{words_text, call_text, found}
use Rattle.plan_calls.specs.Agreement.{HasNames, IsThere, Agrees}
use Rattle.plan_calls.proofs.PlaceLemmas.{place_in, place_there, below_from}
use Rattle.plan_calls.proofs.NameLemmas.{text_same, call_name-is, there_from, names_are, named_back, schema_back, schema_name}

module _ {Y : Type 0} where
  in_front : (xs ys : List Y) (y : Y) → In y xs → In y (xs ++ ys)
  in_front [] ys y i = elim i [ ]
  in_front (x ∷ xs) ys y here = here
  in_front (x ∷ xs) ys y (there i) = there (in_front xs ys y i)

  in_behind : (xs ys : List Y) (y : Y) → In y ys → In y (xs ++ ys)
  in_behind [] ys y i = i
  in_behind (x ∷ xs) ys y i = there (in_behind xs ys y i)

module _ {X Y : Type 0} where
  pub in_map : (f : X → Y) (xs : List X) (x : X) → In x xs → In (f x) (map f xs)
  in_map f [] x i = elim i [ ]
  in_map f (y ∷ xs) x here = here
  in_map f (y ∷ xs) x (there i) = there (in_map f xs x i)

  pub in_map_back : (f : X → Y) (xs : List X) (y : Y) → In y (map f xs) → (x : X) × In x xs × (y ≡ f x)
  in_map_back f [] y i = elim i [ ]
  in_map_back f (x ∷ xs) y i = elim (in_cons (f x) (map f xs) y i) [
    | inl same ↦ (x, here, same)
    | inr j ↦ let r = in_map_back f xs y j in (r.0, there r.1, r.2)
  ]

  pub in_flat_map-from : (f : X → List Y) (xs : List X) (x : X) (y : Y) → In x xs → In y (f x) → In y (flat_map f xs)
  in_flat_map-from f [] x y i j = elim i [ ]
  in_flat_map-from f (z ∷ xs) x y here j = in_front (f x) (flat_map f xs) y j
  in_flat_map-from f (z ∷ xs) x y (there i) j = in_behind (f z) (flat_map f xs) y (in_flat_map-from f xs x y i j)

  pub in_filter_map-from : (h : X → Option Y) (xs : List X) (x : X) (y : Y) → In x xs → h x ≡ Some y → In y (filter_map h xs)
  in_filter_map-from h [] x y i e = elim i [ ]
  in_filter_map-from h (z ∷ xs) x y here e = subst (λ r. In y (cons_option r (filter_map h xs))) (sym e) here
  in_filter_map-from h (z ∷ xs) x y (there i) e = by_value (h z) (in_filter_map-from h xs x y i e)
    where
      by_value : (r : Option Y) → In y (filter_map h xs) → In y (cons_option r (filter_map h xs))
      by_value None j = j
      by_value (Some w) j = there j

pub in_filter-from : {X : Type 0} (t : X → Bool) (xs : List X) (x : X) → In x xs → t x ≡ true → In x (filter t xs)
in_filter-from t [] x i e = elim i [ ]
in_filter-from t (y ∷ xs) x here e = subst (λ b. In x (cond b (x ∷ filter t xs) (filter t xs))) (sym e) here
in_filter-from t (y ∷ xs) x (there i) e = by_test (t y) (in_filter-from t xs x i e)
  where
    by_test : (b : Bool) → In x (filter t xs) → In x (cond b (y ∷ filter t xs) (filter t xs))
    by_test true j = there j
    by_test false j = j

in_upto : (a k o : ℕ) → a ≤ o → o < a + k → In o (upto a k)
in_upto a zero o le lt = absurd (omega arith)
in_upto a (suc k) o le lt = elim (cases_lt a o) [
  | inl l ↦ there (in_upto (a + 1) k o (omega arith) (omega arith))
  | inr g ↦ subst (λ z. In z (a ∷ upto (a + 1) k)) (let e : a ≡ o = omega arith in e) here
]

-- arguments that fit their types are among all lists of objects
fit_among : (types : List TypeDecl) (things : List Thing) (kinds args : List ℕ) → all_fit types things kinds args ≡ true → In args (argument_lists (upto 0 (length things)) kinds)
fit_among types things [] [] e = here
fit_among types things [] (o ∷ args) e = absurd (both_ways false refl e)
fit_among types things (kind ∷ kinds) [] e = absurd (both_ways false refl e)
fit_among types things (kind ∷ kinds) (o ∷ args) e =
    let parts = and_parts (fits types things kind o) (all_fit types things kinds args) e in
    let lists = argument_lists (upto 0 (length things)) kinds in
    let one = there_from types things (kind ∷ kinds) (o ∷ args) e in
    in_flat_map-from (λ o. map (λ rest. o ∷ rest) lists) (upto 0 (length things)) o (o ∷ args) (in_upto 0 (length things) o (omega arith) (let b = below_from things o one.0.0 one.0.1 in omega (arith, b)))
    (in_map (λ rest. o ∷ rest) lists args (fit_among types things kinds args parts.1))

pub fit_of : (d : Domain) (p : Problem) (s : Schema) (args : List ℕ) → is_instance d p s args ≡ true → all_fit d.types (things_of d p) s.params args ≡ true
fit_of d p s args e =
    let fit = all_fit d.types (things_of d p) s.params args in
    let same = list_all (λ x. is_same args x) s.equal in
    let other = list_all (λ x. not (is_same args x)) s.differ in
    let met = list_all (λ a. is_met d p args a) s.pre in
    (and_parts fit same (and_parts (fit && same) other (and_parts (fit && same && other) met e).0).0).0

-- an action of the task is an instance of a schema, with a cost
pub record IsOf (d : Domain) (p : Problem) (i : Instance) : Type 0 where
  pub schema : In i.schema d.schemas
  pub instance : is_instance d p i.schema i.args ≡ true
  pub cost : cost_of p i.schema i.args ≡ Some i.cost

-- a schema at arguments, with a cost
abbrev pub at_cost : Schema → List ℕ → ℕ → Instance
at_cost s args c = record { schema = s; args = args; cost = c }

pub priced_is : (p : Problem) (s : Schema) (args : List ℕ) (i : Instance) → priced p s args ≡ Some i → (i.schema ≡ s) × (i.args ≡ args) × (cost_of p s args ≡ Some i.cost)
priced_is p s args i e = by_cost (cost_of p s args) refl e
  where
    by_cost : (r : Option ℕ) → cost_of p s args ≡ r → option_map (λ c. at_cost s args c) r ≡ Some i → (i.schema ≡ s) × (i.args ≡ args) × (cost_of p s args ≡ Some i.cost)
    by_cost None f g = absurd (none_some i g)
    by_cost (Some c) f g =
        let same : at_cost s args c ≡ i = some_is (at_cost s args c) i g in
        (ap (λ (z : Instance). z.schema) (sym same), ap (λ (z : Instance). z.args) (sym same), f ∙ ap (λ (z : Instance). Some z.cost) same)

pub of_task : (d : Domain) (p : Problem) (i : Instance) → In i (task_instances d p) → IsOf d p i
of_task d p i at =
    let s = in_flat_map (λ s. priced_instances d p s) d.schemas i at in
    let a = in_filter_map (λ args. priced p s.0 args) (instances d p s.0) i s.2 in
    let parts = priced_is p s.0 a.0 i a.2 in
    let test = in_filter (λ args. is_instance d p s.0 args) (argument_lists (objects_of d p) s.0.params) a.0 a.1 in
    record {
      schema = subst (λ (z : Schema). In z d.schemas) (sym parts.0) s.1;
      instance = ap (λ (z : Schema). is_instance d p z i.args) parts.0 ∙ ap (λ z. is_instance d p s.0 z) parts.1 ∙ test;
      cost = ap (λ (z : Schema). cost_of p z i.args) parts.0 ∙ ap (λ z. cost_of p s.0 z) parts.1 ∙ parts.2;
    }

schema_in : (schemas : List Schema) (name : List ℕ) (s : Schema) → schema_named schemas name ≡ Some s → In s schemas × (s.name ≡ name)
schema_in [] name s e = absurd (none_some s e)
schema_in (x ∷ schemas) name s e = by_test (bytes_eq x.name name) refl e (schema_in schemas name s)
  where
    by_test : (b : Bool) → bytes_eq x.name name ≡ b → cond b (Some x) (schema_named schemas name) ≡ Some s → (schema_named schemas name ≡ Some s → In s schemas × (s.name ≡ name)) → In s (x ∷ schemas) × (s.name ≡ name)
    by_test true f g more = (subst (λ (z : Schema). In z (x ∷ schemas)) (some_is x s g) here, ap (λ (z : Schema). z.name) (sym (some_is x s g)) ∙ same_is x.name name f)
    by_test false f g more = let r = more g in (there r.0, r.1)

-- the numbers that names give have these names
named_are : (things : List Thing) (words : List (List ℕ)) (args : List ℕ) → things_named things words ≡ Some args → map (λ o. thing_name things o) args ≡ words
named_are things [] args e = ap (λ z. map (λ o. thing_name things o) z) (sym (some_is [] args e))
named_are things (w ∷ words) args e = by_thing (thing_named things w) (things_named things words) refl refl e (named_are things words)
  where
    named : (o : ℕ) → thing_named things w ≡ Some o → thing_name things o ≡ w
    named o f =
        let r = place_in (λ (t : Thing). bytes_eq t.name w) things o f in
        ap (λ z. option_map_or (λ (t : Thing). t.name) z []) r.3 ∙ same_is r.0.name w r.2

    by_thing : (a : Option ℕ) (b : Option (List ℕ)) → thing_named things w ≡ a → things_named things words ≡ b → with_number a b ≡ Some args → ((os : List ℕ) → things_named things words ≡ Some os → map (λ o. thing_name things o) os ≡ words) →
        map (λ o. thing_name things o) args ≡ w ∷ words
    by_thing None b f g h more = absurd (none_some args h)
    by_thing (Some o) None f g h more = absurd (none_some args h)
    by_thing (Some o) (Some os) f g h more = ap (λ z. map (λ o. thing_name things o) z) (sym (some_is (o ∷ os) args h)) ∙ cons (named o f) (more os g)
      where
        cons : {a b : List ℕ} {c e : List (List ℕ)} → a ≡ b → c ≡ e → (a ∷ c) ≡ (b ∷ e)
        cons p q = cc

each : {X : Type 0} (P : X → Type 0) (xs : List X) (x : X) → AllByRecursion P xs → In x xs → P x
each P [] x h i = elim i [ ]
each P (y ∷ xs) x h here = h.0
each P (y ∷ xs) x h (there i) = each P xs x h.1 i

-- there are as many numbers as names
named_length : (things : List Thing) (words : List (List ℕ)) (args : List ℕ) → things_named things words ≡ Some args → length args ≡ length words
named_length things words args e = sym (length-map args (λ o. thing_name things o)) ∙ ap length (named_are things words args e)

fit_length : (types : List TypeDecl) (things : List Thing) (kinds args : List ℕ) → all_fit types things kinds args ≡ true → length args ≡ length kinds
fit_length types things [] [] e = refl
fit_length types things [] (o ∷ args) e = absurd (both_ways false refl e)
fit_length types things (kind ∷ kinds) [] e = absurd (both_ways false refl e)
fit_length types things (kind ∷ kinds) (o ∷ args) e = ap (λ n. suc n) (fit_length types things kinds args (and_parts (fits types things kind o) (all_fit types things kinds args) e).1)

-- a call with more than 16 arguments is no instance
pub too_many : (d : Domain) (p : Problem) (call : Call) (s : Schema) → IsDomain d → schema_named d.schemas call.name ≡ Some s → 16 < length call.args → verdict.NoAction ≡ judged d p call
too_many d p call s is at lt =
    by_args (things_named (things_of d p) call.args) refl ∙ ap (λ z. judged_by d p z (things_named (things_of d p) call.args)) (sym at)
  where
    few : length s.params ≤ 16
    few = (each (λ s. IsSchema d s) d.schemas s is.schemas (schema_in d.schemas call.name s at).0).few

    by_test : (args : List ℕ) (b : Bool) → is_instance d p s args ≡ b → length args ≡ length call.args → verdict.NoAction ≡ cond b (judged_cost (cost_of p s args)) verdict.NoAction
    by_test args true e l = let f = fit_length d.types (things_of d p) s.params args (fit_of d p s args e) in absurd (omega (arith, f, l, lt, few))
    by_test args false e l = refl

    by_args : (r : Option (List ℕ)) → things_named (things_of d p) call.args ≡ r → verdict.NoAction ≡ judged_by d p (Some s) r
    by_args None e = refl
    by_args (Some args) e = by_test args (is_instance d p s args) refl (named_length (things_of d p) call.args args e)

module _ (d : Domain) (p : Problem) (call : Call) where
  is_found : AreNamed d p → HasNames call → (r : Option ℕ) → found (ground_task d p).actions call ≡ r → IsThere r → judged d p call ≡ verdict.Instance
  is_found named has None e at = absurd at
  is_found named has (Some k) e seen =
      let a = place_in (λ (a : Action). bytes_eq a.name (call_text call)) (map (λ i. action_of d p (fact_atoms d p) i) (task_instances d p)) k e in
      let i = in_map_back (λ i. action_of d p (fact_atoms d p) i) (task_instances d p) a.0 a.1 in
      let is = of_task d p i.0 i.1 in
      let fit = fit_of d p i.0.schema i.0.args is.instance in
      let at = there_from d.types (things_of d p) i.0.schema.params i.0.args fit in
      let text : i.0.schema.name ++ words_text (map (λ o. thing_name (things_of d p) o) i.0.args) ≡ call.name ++ words_text call.args =
      sym (call_name-is (things_of d p) i.0.schema.name i.0.args) ∙ ap (λ (z : Action). z.name) (sym i.2) ∙ same_is a.0.name (call_text call) a.2 in
      let same = text_same i.0.schema.name call.name (map (λ o. thing_name (things_of d p) o) i.0.args) call.args (schema_name d.schemas i.0.schema named.actions is.schema) has.name (names_are (things_of d p) named.things i.0.args at) has.args text in
      ap (λ z. judged_by d p z (things_named (things_of d p) call.args)) (ap (λ z. schema_named d.schemas z) (sym same.0) ∙ schema_back d.schemas i.0.schema named.actions is.schema)
      ∙ ap (λ z. judged_by d p (Some i.0.schema) z) (ap (λ z. things_named (things_of d p) z) (sym same.1) ∙ named_back (things_of d p) named.things i.0.args at)
      ∙ ap (λ b. cond b (judged_cost (cost_of p i.0.schema i.0.args)) verdict.NoAction) is.instance
      ∙ ap (λ r. judged_cost r) is.cost

  no_instance : verdict.NoAction ≡ verdict.Instance → ⊥
  no_instance e = cc

  no_cost : verdict.NoCost ≡ verdict.Instance → ⊥
  no_cost e = cc

  with_cost : (s : Schema) (args : List ℕ) (c : ℕ) → In s d.schemas → s.name ≡ call.name → map (λ o. thing_name (things_of d p) o) args ≡ call.args → is_instance d p s args ≡ true → cost_of p s args ≡ Some c →
      IsThere (found (ground_task d p).actions call)
  with_cost s args c at name words is cost =
      let i = at_cost s args c in
      let listed = in_filter-from (λ args. is_instance d p s args) (argument_lists (objects_of d p) s.params) args (fit_among d.types (things_of d p) s.params args (fit_of d p s args is)) is in
      let one : In i (priced_instances d p s) = in_filter_map-from (λ args. priced p s args) (instances d p s) args i listed (ap (λ r. option_map (λ c. at_cost s args c) r) cost) in
      let all : In i (task_instances d p) = in_flat_map-from (λ s. priced_instances d p s) d.schemas s i at one in
      place_there (λ (a : Action). bytes_eq a.name (call_text call)) (map (λ i. action_of d p (fact_atoms d p) i) (task_instances d p)) (action_of d p (fact_atoms d p) i) (in_map (λ i. action_of d p (fact_atoms d p) i) (task_instances d p) i all)
      (ap (λ z. bytes_eq z (call_text call)) (call_name-is (things_of d p) s.name args ∙ ap (λ z. z ++ words_text (map (λ o. thing_name (things_of d p) o) args)) name ∙ ap (λ z. call.name ++ words_text z) words) ∙ same-refl (call_text call))

  is_judged : judged d p call ≡ verdict.Instance → IsThere (found (ground_task d p).actions call)
  is_judged e = by_parts (schema_named d.schemas call.name) (things_named (things_of d p) call.args) refl refl e
    where
      by_cost : (s : Schema) (args : List ℕ) (r : Option ℕ) → schema_named d.schemas call.name ≡ Some s → things_named (things_of d p) call.args ≡ Some args → is_instance d p s args ≡ true → cost_of p s args ≡ r → judged_cost r ≡ verdict.Instance →
          IsThere (found (ground_task d p).actions call)
      by_cost s args None f g is h e = absurd (no_cost e)
      by_cost s args (Some c) f g is h e = let at = schema_in d.schemas call.name s f in with_cost s args c at.0 at.1 (named_are (things_of d p) call.args args g) is h

      by_test : (s : Schema) (args : List ℕ) (b : Bool) → schema_named d.schemas call.name ≡ Some s → things_named (things_of d p) call.args ≡ Some args → is_instance d p s args ≡ b → cond b (judged_cost (cost_of p s args)) verdict.NoAction ≡ verdict.Instance →
          IsThere (found (ground_task d p).actions call)
      by_test s args true f g is e = by_cost s args (cost_of p s args) f g is refl e
      by_test s args false f g is e = absurd (no_instance e)

      by_parts : (a : Option Schema) (b : Option (List ℕ)) → schema_named d.schemas call.name ≡ a → things_named (things_of d p) call.args ≡ b → judged_by d p a b ≡ verdict.Instance → IsThere (found (ground_task d p).actions call)
      by_parts None b f g e = absurd (no_instance e)
      by_parts (Some s) None f g e = absurd (no_instance e)
      by_parts (Some s) (Some args) f g e = by_test s args (is_instance d p s args) f g refl e

  pub agrees : AreNamed d p → HasNames call → Agrees d p call
  agrees named has = (λ seen. is_found named has (found (ground_task d p).actions call) refl seen, is_judged)
