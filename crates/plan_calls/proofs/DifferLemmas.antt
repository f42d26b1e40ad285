-- The actions of a ground task have names that differ.
use Rattle.std.proofs.Common.{◌≡◌, ℕ, zero, suc, ◌+◌, ◌≤◌, Bool, true, false, cond, ◌&&◌, List, [], ◌∷◌, ◌++◌, length, map, filter, Option, Some, None, refl, sym, ap, ◌∙◌, subst, inl, inr, arith}
use Rattle.std.specs.List.{list_any, flat_map, filter_map, cons_option}
use Rattle.std.specs.Str.{bytes_eq}
use Rattle.std.proofs.lemmas.Bool.{or_cases, or_left, or_right, both_ways}
use Rattle.std.proofs.lemmas.List.{map-append}
use Rattle.bd_base.specs.Bits.{upto}
use Rattle.bd_task.specs.declared.ground.Action.{Action}
use Rattle.pddl_types.specs.declared.domains.Schema.{Schema}
use Rattle.pddl_types.specs.declared.domains.Domain.{Domain}
use Rattle.pddl_types.specs.declared.problems.Problem.{Problem}
use Rattle.pddl_types.specs.Readable.{AreNames, AreNamed}
use Rattle.bd_ground.specs.Atoms.{same_atom, is_among}
use Rattle.bd_ground.specs.Instances.{things_of, is_instance, argument_lists, objects_of, instances, Instance, priced, priced_instances, task_instances}
use Rattle.bd_ground.specs.Task.{thing_name, call_name, action_of, fact_atoms}
use Rattle.bd_ground.proofs.MemberLemmas.{In, here, there, some_is, in_append, in_filter, in_filter_map, in_flat_map}
use Rattle.bd_ground.proofs.AtomLemmas.{same-refl, same_is, is_among-append, is_among-filter}
use Rattle.plan_calls.specs.Judging.{things_named}
use Rattle.plan_calls.specs.Agreement.{AreDistinct, ActionsDiffer}
use Rattle.plan_calls.proofs.NameLemmas.{text_same, call_name-is, there_from, names_are, named_back, schema_name}
use Rattle.plan_calls.proofs.AgreeLemmas.{in_map_back, priced_is, fit_of}

among_in : (g : List ℕ) (xs : List (List ℕ)) → is_among g xs ≡ true → In g xs
among_in g [] e = absurd (both_ways false refl e)
among_in g (x ∷ xs) e = elim (or_cases (same_atom g x) (is_among g xs) e) [
  | inl same ↦ subst (λ z. In g (z ∷ xs)) (same_is g x same) here
  | inr later ↦ there (among_in g xs later)
]

in_among : (g : List ℕ) (xs : List (List ℕ)) → In g xs → is_among g xs ≡ true
in_among g [] i = elim i [ ]
in_among g (x ∷ xs) here = or_left _ _ (same-refl x)
in_among g (x ∷ xs) (there i) = or_right _ _ (in_among g xs i)

not_among : (g : List ℕ) (xs : List (List ℕ)) → (is_among g xs ≡ true → ⊥) → is_among g xs ≡ false
not_among g xs h = by_value (is_among g xs) refl
  where
    by_value : (b : Bool) → is_among g xs ≡ b → b ≡ false
    by_value true e = absurd (h e)
    by_value false e = refl

distinct-append : (xs ys : List (List ℕ)) → AreDistinct xs → AreDistinct ys → ((g : List ℕ) → In g xs → In g ys → ⊥) → AreDistinct (xs ++ ys)
distinct-append [] ys a b apart = b
distinct-append (x ∷ xs) ys a b apart = (
  not_among x (xs ++ ys) (λ e. elim (or_cases (is_among x xs) (is_among x ys) (sym (is_among-append x xs ys) ∙ e)) [
    | inl front ↦ both_ways (is_among x xs) a.0 front
    | inr back ↦ apart x here (among_in x ys back)
  ]),
  distinct-append xs ys a.1 b (λ g i j. apart g (there i) j),
)

distinct-filter : (t : List ℕ → Bool) (xs : List (List ℕ)) → AreDistinct xs → AreDistinct (filter t xs)
distinct-filter t [] a = a
distinct-filter t (x ∷ xs) a = by_test (t x) (distinct-filter t xs a.1)
  where
    none : (b : Bool) → (b && false) ≡ false
    none true = refl
    none false = refl

    by_test : (b : Bool) → AreDistinct (filter t xs) → AreDistinct (cond b (x ∷ filter t xs) (filter t xs))
    by_test true more = (is_among-filter t x xs ∙ ap (λ c. t x && c) a.0 ∙ none (t x), more)
    by_test false more = more

same_tail : (a b : ℕ) (ps qs : List ℕ) → a ∷ ps ≡ b ∷ qs → (a ≡ b) × (ps ≡ qs)
same_tail a b ps qs e = (head e, tail e)
  where
    head : a ∷ ps ≡ b ∷ qs → a ≡ b
    head q = cc

    tail : a ∷ ps ≡ b ∷ qs → ps ≡ qs
    tail q = cc

distinct-begun : (o : ℕ) (lists : List (List ℕ)) → AreDistinct lists → AreDistinct (map (λ rest. o ∷ rest) lists)
distinct-begun o [] a = a
distinct-begun o (x ∷ lists) a = (
  not_among (o ∷ x) (map (λ rest. o ∷ rest) lists) (λ e.
      let r = in_map_back (λ rest. o ∷ rest) lists (o ∷ x) (among_in (o ∷ x) (map (λ rest. o ∷ rest) lists) e) in
      both_ways (is_among x lists) a.0 (in_among x lists (subst (λ z. In z lists) (sym (same_tail o o x r.0 r.2).1) r.1))),
  distinct-begun o lists a.1,
)

-- a list that begins with one of the objects from a on begins with none before
begins_from : (lists : List (List ℕ)) (a k : ℕ) (g : List ℕ) → In g (flat_map (λ o. map (λ rest. o ∷ rest) lists) (upto a k)) → (h : ℕ) (os : List ℕ) → g ≡ h ∷ os → a ≤ h
begins_from lists a zero g i h os e = elim i [ ]
begins_from lists a (suc k) g i h os e = elim (in_append (map (λ rest. a ∷ rest) lists) (flat_map (λ o. map (λ rest. o ∷ rest) lists) (upto (a + 1) k)) g i) [
  | inl front ↦
      let r = in_map_back (λ rest. a ∷ rest) lists g front in
      let s : h ≡ a = (same_tail h a os r.0 (sym e ∙ r.2)).0 in
      omega (arith, s)
  | inr back ↦ let b = begins_from lists (a + 1) k g back h os e in omega (arith, b)
]

distinct-all : (lists : List (List ℕ)) (a k : ℕ) → AreDistinct lists → AreDistinct (flat_map (λ o. map (λ rest. o ∷ rest) lists) (upto a k))
distinct-all lists a zero d = tt
distinct-all lists a (suc k) d =
    distinct-append (map (λ rest. a ∷ rest) lists) (flat_map (λ o. map (λ rest. o ∷ rest) lists) (upto (a + 1) k)) (distinct-begun a lists d) (distinct-all lists (a + 1) k d)
    (λ g i j.
    let r = in_map_back (λ rest. a ∷ rest) lists g i in
    let b = begins_from lists (a + 1) k g j a r.0 r.2 in
    omega (arith, b))

distinct-lists : (n : ℕ) (kinds : List ℕ) → AreDistinct (argument_lists (upto 0 n) kinds)
distinct-lists n [] = (refl, tt)
distinct-lists n (kind ∷ kinds) = distinct-all (argument_lists (upto 0 n) kinds) 0 n (distinct-lists n kinds)

module _ (d : Domain) (p : Problem) (named : AreNamed d p) where
  abbrev name_of : Instance → List ℕ
  name_of i = call_name (things_of d p) i.schema.name i.args

  -- an instance is told by its name
  told : (s z : Schema) (args bs : List ℕ) → In s d.schemas → In z d.schemas → is_instance d p s args ≡ true → is_instance d p z bs ≡ true → call_name (things_of d p) s.name args ≡ call_name (things_of d p) z.name bs → (s.name ≡ z.name) × (args ≡ bs)
  told s z args bs at az is iz e =
      let things = things_of d p in
      let fa = there_from d.types things s.params args (fit_of d p s args is) in
      let fb = there_from d.types things z.params bs (fit_of d p z bs iz) in
      let same = text_same s.name z.name (map (λ o. thing_name things o) args) (map (λ o. thing_name things o) bs) (schema_name d.schemas s named.actions at) (schema_name d.schemas z named.actions az)
      (names_are things named.things args fa) (names_are things named.things bs fb) (sym (call_name-is things s.name args) ∙ e ∙ call_name-is things z.name bs) in
      (same.0, some_is args bs (sym (named_back things named.things args fa) ∙ ap (λ w. things_named things w) same.1 ∙ named_back things named.things bs fb))

  args_of : (s : Schema) (args : List ℕ) (i : Instance) → priced p s args ≡ Some i → (i.schema ≡ s) × (i.args ≡ args)
  args_of s args i e = let r = priced_is p s args i e in (r.0, r.1)

  name-priced : (s : Schema) (args : List ℕ) (i : Instance) → priced p s args ≡ Some i → name_of i ≡ call_name (things_of d p) s.name args
  name-priced s args i e = let r = args_of s args i e in ap (λ (z : Schema). call_name (things_of d p) z.name i.args) r.0 ∙ ap (λ z. call_name (things_of d p) s.name z) r.1

  -- the instances of one schema
  distinct-schema : (s : Schema) → In s d.schemas → (lists : List (List ℕ)) → AreDistinct lists → ((args : List ℕ) → In args lists → is_instance d p s args ≡ true) → AreDistinct (map name_of (filter_map (λ args. priced p s args) lists))
  distinct-schema s at [] a all = tt
  distinct-schema s at (x ∷ lists) a all = by_value (priced p s x) refl (distinct-schema s at lists a.1 (λ args i. all args (there i)))
    where
      by_value : (r : Option Instance) → priced p s x ≡ r → AreDistinct (map name_of (filter_map (λ args. priced p s args) lists)) → AreDistinct (map name_of (cons_option r (filter_map (λ args. priced p s args) lists)))
      by_value None e more = more
      by_value (Some i) e more = (
        not_among (name_of i) (map name_of (filter_map (λ args. priced p s args) lists)) (λ f.
            let r = in_map_back name_of (filter_map (λ args. priced p s args) lists) (name_of i) (among_in (name_of i) (map name_of (filter_map (λ args. priced p s args) lists)) f) in
            let b = in_filter_map (λ args. priced p s args) lists r.0 r.1 in
            let same = told s s x b.0 at at (all x here) (all b.0 (there b.1)) (sym (name-priced s x i e) ∙ r.2 ∙ name-priced s b.0 r.0 b.2) in
            both_ways (is_among x lists) a.0 (in_among x lists (subst (λ z. In z lists) (sym same.1) b.1))),
        more,
      )

  passing : (s : Schema) (args : List ℕ) → In args (instances d p s) → is_instance d p s args ≡ true
  passing s args i = in_filter (λ args. is_instance d p s args) (argument_lists (objects_of d p) s.params) args i

  distinct-one : (s : Schema) → In s d.schemas → AreDistinct (map name_of (priced_instances d p s))
  distinct-one s at =
      distinct-schema s at (instances d p s) (distinct-filter (λ args. is_instance d p s args) (argument_lists (objects_of d p) s.params) (distinct-lists (length (things_of d p)) s.params)) (passing s)

  -- those of some schemas, whose names differ
  distinct-schemas : (schemas : List Schema) → AreNames (map (λ (s : Schema). s.name) schemas) → ((s : Schema) → In s schemas → In s d.schemas) → AreDistinct (map name_of (flat_map (λ s. priced_instances d p s) schemas))
  distinct-schemas [] are within = tt
  distinct-schemas (s ∷ schemas) are within =
      subst AreDistinct (sym (map-append name_of (priced_instances d p s) (flat_map (λ s. priced_instances d p s) schemas)))
      (distinct-append (map name_of (priced_instances d p s)) (map name_of (flat_map (λ s. priced_instances d p s) schemas)) (distinct-one s (within s here)) (distinct-schemas schemas are.2 (λ z i. within z (there i))) apart)
    where
      same_named : (zs : List Schema) (z : Schema) → In z zs → s.name ≡ z.name → list_any (λ m. bytes_eq s.name m) (map (λ (s : Schema). s.name) zs) ≡ true
      same_named [] z i e = elim i [ ]
      same_named (y ∷ zs) z here e = or_left _ _ (subst (λ w. bytes_eq s.name w ≡ true) e (same-refl s.name))
      same_named (y ∷ zs) z (there i) e = or_right _ _ (same_named zs z i e)

      apart : (g : List ℕ) → In g (map name_of (priced_instances d p s)) → In g (map name_of (flat_map (λ s. priced_instances d p s) schemas)) → ⊥
      apart g i j =
          let a = in_map_back name_of (priced_instances d p s) g i in
          let b = in_map_back name_of (flat_map (λ s. priced_instances d p s) schemas) g j in
          let x = in_filter_map (λ args. priced p s args) (instances d p s) a.0 a.1 in
          let z = in_flat_map (λ s. priced_instances d p s) schemas b.0 b.1 in
          let y = in_filter_map (λ args. priced p z.0 args) (instances d p z.0) b.0 z.2 in
          let same = told s z.0 x.0 y.0 (within s here) (within z.0 (there z.1)) (passing s x.0 x.1) (passing z.0 y.0 y.1)
          (sym (name-priced s x.0 a.0 x.2) ∙ sym a.2 ∙ b.2 ∙ name-priced z.0 y.0 b.0 y.2) in
          both_ways (list_any (λ m. bytes_eq s.name m) (map (λ (s : Schema). s.name) schemas)) are.1 (same_named schemas z.0 z.1 same.0)

  pub differ : ActionsDiffer d p
  differ = subst AreDistinct (sym (names (task_instances d p))) (distinct-schemas d.schemas named.actions (λ s i. i))
    where
      names : (list : List Instance) → map (λ (a : Action). a.name) (map (λ i. action_of d p (fact_atoms d p) i) list) ≡ map name_of list
      names [] = refl
      names (i ∷ list) = ap (λ z. name_of i ∷ z) (names list)
