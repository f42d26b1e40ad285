-- Texts of names without spaces, and which words they are made of.
use Rattle.std.proofs.Common.{◌≡◌, ℕ, zero, suc, ◌+◌, ◌<◌, Bool, true, false, cond, ◌&&◌, ltb, List, [], ◌∷◌, ◌++◌, map, Option, Some, None, slice_get, refl, sym, ap, ◌∙◌, subst, arith}
use Rattle.std.specs.List.{list_any, list_all, flat_map, AllByRecursion}
use Rattle.std.specs.Option.{option_map, option_map_or}
use Rattle.std.specs.Str.{bytes_eq}
use Rattle.std.proofs.lemmas.Bool.{and_parts, or_left, or_right, both_ways, ltb-true}
use Rattle.pddl_types.specs.declared.domains.Thing.{Thing}
use Rattle.pddl_types.specs.declared.domains.TypeDecl.{TypeDecl}
use Rattle.pddl_types.specs.declared.domains.Schema.{Schema}
use Rattle.pddl_types.specs.Readable.{IsName, AreNames}
use Rattle.bd_ground.specs.Instances.{is_under, fits, all_fit}
use Rattle.bd_ground.specs.Task.{thing_name, call_name}
use Rattle.bd_ground.proofs.MemberLemmas.{In, here, there, some_is, none_some}
use Rattle.bd_ground.proofs.AtomLemmas.{same-refl}
use Rattle.plan_calls.specs.Places.{shifted, behind}
use Rattle.plan_calls.specs.Judging.{schema_named, thing_named, with_number, things_named}
use Rattle.plan_calls.specs.Finding.{words_text}

-- a text that is empty or begins with a space
abbrev Begins : List ℕ → Type 0
Begins [] = Unit {0}
Begins (b ∷ bs) = b ≡ 32

words_begin : (ws : List (List ℕ)) → Begins (words_text ws)
words_begin [] = tt
words_begin (w ∷ ws) = refl

head_same : {a b : ℕ} {ps qs : List ℕ} → a ∷ ps ≡ b ∷ qs → a ≡ b
head_same e = cc

tail_same : {a b : ℕ} {ps qs : List ℕ} → a ∷ ps ≡ b ∷ qs → ps ≡ qs
tail_same e = cc

nil_cons : {b : ℕ} {bs : List ℕ} → [] ≡ b ∷ bs → ⊥
nil_cons e = cc

above : (b : ℕ) (bs : List ℕ) → IsName (b ∷ bs) → (b ≡ 32) → ⊥
above b bs is e =
    let byte = (and_parts (ltb 32 b && ltb b 127) (list_all (λ b. ltb 32 b && ltb b 127) bs) is).0 in
    let lt : 32 < b = ltb-true 32 b (and_parts (ltb 32 b) (ltb b 127) byte).0 in
    omega (arith, lt, e)

rest_name : (b : ℕ) (bs : List ℕ) → IsName (b ∷ bs) → IsName bs
rest_name b bs is = (and_parts (ltb 32 b && ltb b 127) (list_all (λ b. ltb 32 b && ltb b 127) bs) is).1

-- names end where a space or the text's end comes
front_same : (n m r s : List ℕ) → IsName n → IsName m → Begins r → Begins s → n ++ r ≡ m ++ s → (n ≡ m) × (r ≡ s)
front_same [] [] r s isn ism rb sb e = (refl, e)
front_same [] (c ∷ m) [] s isn ism rb sb e = absurd (nil_cons e)
front_same [] (c ∷ m) (b ∷ r) s isn ism rb sb e = absurd (above c m ism (sym (head_same e) ∙ rb))
front_same (b ∷ n) [] r [] isn ism rb sb e = absurd (nil_cons (sym e))
front_same (b ∷ n) [] r (c ∷ s) isn ism rb sb e = absurd (above b n isn (head_same e ∙ sb))
front_same (b ∷ n) (c ∷ m) r s isn ism rb sb e =
    let more = front_same n m r s (rest_name b n isn) (rest_name c m ism) rb sb (tail_same e) in
    (cons (head_same e) more.0, more.1)
  where
    cons : b ≡ c → n ≡ m → b ∷ n ≡ c ∷ m
    cons p q = cc

words_same : (ws vs : List (List ℕ)) → AllByRecursion IsName ws → AllByRecursion IsName vs → words_text ws ≡ words_text vs → ws ≡ vs
words_same [] [] a b e = refl
words_same [] (v ∷ vs) a b e = absurd (nil_cons e)
words_same (w ∷ ws) [] a b e = absurd (nil_cons (sym e))
words_same (w ∷ ws) (v ∷ vs) a b e =
    let parts = front_same w v (words_text ws) (words_text vs) a.0 b.0 (words_begin ws) (words_begin vs) (tail_same e) in
    cons parts.0 (words_same ws vs a.1 b.1 parts.1)
  where
    cons : w ≡ v → ws ≡ vs → w ∷ ws ≡ v ∷ vs
    cons p q = cc

-- a name and words are told by their text
pub text_same : (n m : List ℕ) (ws vs : List (List ℕ)) → IsName n → IsName m → AllByRecursion IsName ws → AllByRecursion IsName vs → n ++ words_text ws ≡ m ++ words_text vs → (n ≡ m) × (ws ≡ vs)
text_same n m ws vs isn ism a b e =
    let parts = front_same n m (words_text ws) (words_text vs) isn ism (words_begin ws) (words_begin vs) e in
    (parts.0, words_same ws vs a b parts.1)

pub call_name-is : (things : List Thing) (name args : List ℕ) → call_name things name args ≡ name ++ words_text (map (λ o. thing_name things o) args)
call_name-is things name args = ap (λ z. name ++ z) (words args)
  where
    words : (args : List ℕ) → flat_map (λ o. 32 ∷ thing_name things o) args ≡ words_text (map (λ o. thing_name things o) args)
    words [] = refl
    words (o ∷ args) = ap (λ z. 32 ∷ (thing_name things o ++ z)) (words args)

-- numbers of constants and objects
abbrev pub AreThere : List Thing → List ℕ → Type 0
AreThere things args = AllByRecursion (λ o. (t : Thing) × (slice_get things o ≡ Some t)) args

module _ (types : List TypeDecl) (things : List Thing) where
  pub there_from : (kinds args : List ℕ) → all_fit types things kinds args ≡ true → AreThere things args
  there_from kinds [] e = tt
  there_from [] (o ∷ args) e = absurd (both_ways false refl e)
  there_from (kind ∷ kinds) (o ∷ args) e =
      let parts = and_parts (fits types things kind o) (all_fit types things kinds args) e in
      (by_thing (slice_get things o) refl parts.0, there_from kinds args parts.1)
    where
      by_thing : (r : Option Thing) → slice_get things o ≡ r → fits types things kind o ≡ true → (t : Thing) × (slice_get things o ≡ Some t)
      by_thing None f g = absurd (both_ways (fits types things kind o) (ap (λ z. is_under types types kind (option_map (λ (t : Thing). t.kind) z)) f) g)
      by_thing (Some t) f g = (t, f)

named_first : (things : List Thing) (o : ℕ) (t : Thing) → AreNames (map (λ (t : Thing). t.name) things) → slice_get things o ≡ Some t → thing_named things t.name ≡ Some o
named_first [] o t are e = absurd (none_some t e)
named_first (x ∷ things) zero t are e = ap (λ b. cond b (Some 0) (shifted 1 (thing_named things t.name))) (ap (λ (z : Thing). bytes_eq z.name t.name) (some_is x t e) ∙ same-refl t.name)
named_first (x ∷ things) (suc o) t are e =
    ap (λ b. cond b (Some 0) (shifted 1 (thing_named things t.name))) (differs (bytes_eq x.name t.name) refl)
    ∙ ap (λ r. shifted 1 r) (named_first things o t are.2 e) ∙ ap (λ n. Some n) (let e : 1 + o ≡ suc o = omega arith in e)
  where
    among : (xs : List Thing) (k : ℕ) → slice_get xs k ≡ Some t → bytes_eq x.name t.name ≡ true → list_any (λ m. bytes_eq x.name m) (map (λ (t : Thing). t.name) xs) ≡ true
    among [] k f g = absurd (none_some t f)
    among (y ∷ xs) zero f g = or_left _ _ (ap (λ (z : Thing). bytes_eq x.name z.name) (some_is y t f) ∙ g)
    among (y ∷ xs) (suc k) f g = or_right _ _ (among xs k f g)

    differs : (b : Bool) → bytes_eq x.name t.name ≡ b → b ≡ false
    differs true f = absurd (both_ways (list_any (λ m. bytes_eq x.name m) (map (λ (t : Thing). t.name) things)) are.1 (among things o e f))
    differs false f = refl

name_is : (things : List Thing) (o : ℕ) (t : Thing) → slice_get things o ≡ Some t → thing_name things o ≡ t.name
name_is things o t e = ap (λ r. option_map_or (λ (t : Thing). t.name) r []) e

each_named : (things : List Thing) (o : ℕ) (t : Thing) → AreNames (map (λ (t : Thing). t.name) things) → slice_get things o ≡ Some t → IsName t.name
each_named [] o t are e = absurd (none_some t e)
each_named (x ∷ things) zero t are e = subst (λ (z : Thing). IsName z.name) (some_is x t e) are.0
each_named (x ∷ things) (suc o) t are e = each_named things o t are.2 e

module _ (things : List Thing) (are : AreNames (map (λ (t : Thing). t.name) things)) where
  pub names_are : (args : List ℕ) → AreThere things args → AllByRecursion IsName (map (λ o. thing_name things o) args)
  names_are [] all = tt
  names_are (o ∷ args) all = (subst IsName (sym (name_is things o all.0.0 all.0.1)) (each_named things o all.0.0 are all.0.1), names_are args all.1)

  -- objects are told by their names
  pub named_back : (args : List ℕ) → AreThere things args → things_named things (map (λ o. thing_name things o) args) ≡ Some args
  named_back [] all = refl
  named_back (o ∷ args) all =
      ap (λ r. with_number r (things_named things (map (λ o. thing_name things o) args))) (ap (λ z. thing_named things z) (name_is things o all.0.0 all.0.1) ∙ named_first things o all.0.0 are all.0.1)
      ∙ ap (λ r. behind (o ∷ []) r) (named_back args all.1)

-- a schema is told by its name
pub schema_back : (schemas : List Schema) (s : Schema) → AreNames (map (λ (s : Schema). s.name) schemas) → In s schemas → schema_named schemas s.name ≡ Some s
schema_back [] s are i = elim i [ ]
schema_back (x ∷ schemas) s are here = ap (λ b. cond b (Some s) (schema_named schemas s.name)) (same-refl s.name)
schema_back (x ∷ schemas) s are (there i) = ap (λ b. cond b (Some x) (schema_named schemas s.name)) (differs (bytes_eq x.name s.name) refl) ∙ schema_back schemas s are.2 i
  where
    among : (xs : List Schema) → In s xs → bytes_eq x.name s.name ≡ true → list_any (λ m. bytes_eq x.name m) (map (λ (s : Schema). s.name) xs) ≡ true
    among [] j f = elim j [ ]
    among (y ∷ xs) here f = or_left _ _ f
    among (y ∷ xs) (there j) f = or_right _ _ (among xs j f)

    differs : (b : Bool) → bytes_eq x.name s.name ≡ b → b ≡ false
    differs true f = absurd (both_ways (list_any (λ m. bytes_eq x.name m) (map (λ (s : Schema). s.name) schemas)) are.1 (among schemas i f))
    differs false f = refl

pub schema_name : (schemas : List Schema) (s : Schema) → AreNames (map (λ (s : Schema). s.name) schemas) → In s schemas → IsName s.name
schema_name [] s are i = elim i [ ]
schema_name (x ∷ schemas) s are here = are.0
schema_name (x ∷ schemas) s are (there i) = schema_name schemas s are.2 i
