-- Actions that are spelled are read, and those that are read are spelled.
use Rattle.std.proofs.Common.{◌≡◌, ℕ, true, false, List, [], ◌∷◌, ◌++◌, Option, Some, None, Ok, map, refl, sym, ap, subst, ◌∙◌, append_assoc}
use Rattle.std.proofs.lemmas.List.{append-nil}
use Rattle.bd_base.specs.declared.text_err.Cause.TheVariants as cause
use Rattle.pddl_lex.specs.declared.sexp.Sexp.{Sexp}
use Rattle.pddl_lex.specs.declared.sexp.Sexp.TheViews.{out-Sexp}
use Rattle.pddl_types.specs.declared.domains.Schema.{Schema}
use Rattle.pddl_form.specs.Trees.{Named, Headed, word_at, is_name, name_at, first_at}
use Rattle.pddl_form.specs.Names.{is_declared}
use Rattle.pddl_form.specs.Things.{Table}
use Rattle.pddl_form.specs.Reserved.{declare_at}
use Rattle.pddl_form.specs.Terms.{Scope}
use Rattle.pddl_form.specs.Spells.{IsWord, AreNew}
use Rattle.pddl_form.proofs.Laws.{bind_ok, declare_back}
use Rattle.pddl_form.proofs.HeadedLemmas.{word_back}
use Rattle.pddl_form.proofs.TypedLemmas.{name_back}
use Rattle.pddl_domain.specs.Conditions.{Condition}
use Rattle.pddl_domain.specs.Effects.{Effect}
use Rattle.pddl_domain.specs.Domain.{Declared}
use Rattle.pddl_domain.specs.Params.{params_at}
use Rattle.pddl_domain.specs.Actions.{Fields, no_fields, field_of, value_in, with_value, unless_given, field_by, field_at, awaits, step_by, field_step, fields_from, unless_awaited, fields_at, pre_at, post_at, scope_in, schema_of, schema_at, action_at, actions_from}
use Rattle.pddl_domain.specs.declared.values.Field.{Field}
use Rattle.pddl_domain.specs.declared.values.Field.TheVariants as kinds
use Rattle.pddl_laws.specs.Actions.{SpellsFields, fields_none, fields_more, SpellsPrecondition, SpellsResult, SpellsSchema, SpellsAction, SpellsEach, SpellsActions}
use Rattle.pddl_laws.proofs.TermLemmas.{first_back}
use Rattle.pddl_laws.proofs.ParamLemmas.{params_field_read, params_field_spelled}
use Rattle.pddl_laws.proofs.ConditionLemmas.{condition_read, condition_spelled}
use Rattle.pddl_laws.proofs.EffectLemmas.{effect_read, effect_spelled}

-- fields

value_awaited : (field : Field) (x : Sexp) (f : Fields) → with_value field x (awaits field f) ≡ with_value field x f
value_awaited kinds.Parameters x f = refl
value_awaited kinds.Precondition x f = refl
value_awaited kinds.Effect x f = refl

none_awaited : (field : Field) (x : Sexp) (f : Fields) → (with_value field x f).pending ≡ None
none_awaited kinds.Parameters x f = refl
none_awaited kinds.Precondition x f = refl
none_awaited kinds.Effect x f = refl

by_read : (w : Named) (o : Option Field) (field : Field) (f : Fields) → o ≡ Some field → value_in field f ≡ None → field_by w o f ≡ Ok field
by_read w o field f k v = rw (k, v) refl

key_read : (key : Sexp) (w : Named) (field : Field) (f : Fields) → IsWord key w → field_of w.1 ≡ Some field → value_in field f ≡ None → f.pending ≡ None → field_step key f ≡ Ok (awaits field f)
key_read key w field f h k v p = ap (λ (o : Option Field). step_by o key f) p ∙ read
  where
    at_read : field_at key f ≡ Ok field
    at_read = rw h (by_read w (field_of w.1) field f k v)

    read : step_by None key f ≡ Ok (awaits field f)
    read = rw at_read refl

fields_read : {given : Fields} {items : List Sexp} {all : Fields} → SpellsFields given items all → given.pending ≡ None → (fields_from given items ≡ Ok all) × (all.pending ≡ None)
fields_read {given} (fields_none i a) p = (rw (i, a) refl, rw a p)
fields_read {given} {items} {all} (fields_more key value rest w field h k v more i) p =
    let r = fields_read more (none_awaited field value given) in
    let step : fields_from (with_value field value (awaits field given)) rest ≡ Ok all = ap (λ (f : Fields). fields_from f rest) (value_awaited field value given) ∙ r.0 in
    (rw (i, key_read key w field given h k v p) step, r.1)

unless_back : (w : Named) (o : Option Sexp) (field kind : Field) → unless_given w o field ≡ Ok kind → (o ≡ None) × (field ≡ kind)
unless_back w None field kind e = (refl, cc)
unless_back w (Some x) field kind e = cc

by_back : (w : Named) (o : Option Field) (f : Fields) (field : Field) → field_by w o f ≡ Ok field → (o ≡ Some field) × (value_in field f ≡ None)
by_back w None f field e = cc
by_back w (Some kind) f field e =
    let u = unless_back w (value_in kind f) kind field e in
    (ap (λ (k : Field). Some k) u.1, subst (λ (k : Field). value_in k f ≡ None) u.1 u.0)

record IsKey (key : Sexp) (f : Fields) (next : Fields) : Type 0 where
  w : Named
  field : Field
  word : IsWord key w
  known : field_of w.1 ≡ Some field
  new : value_in field f ≡ None
  is : next ≡ awaits field f

key_back : (key : Sexp) (f next : Fields) → f.pending ≡ None → field_step key f ≡ Ok next → IsKey key f next
key_back key f next p e =
    let q : step_by None key f ≡ Ok next = subst (λ (o : Option Field). step_by o key f ≡ Ok next) p e in
    let k = bind_ok (field_at key f) (λ field. Ok (awaits field f)) next q in
    let w = bind_ok (word_at key) (λ w. field_by w (field_of w.1) f) k.0 k.1 in
    let b = by_back w.0 (field_of w.0.1) f k.0 w.2 in
    record { w = w.0; field = k.0; word = word_back (out-Sexp key) w.0 w.1; known = b.0; new = b.1; is = cc }

fields_back : (given : Fields) (items : List Sexp) (all : Fields) → given.pending ≡ None → all.pending ≡ None → fields_from given items ≡ Ok all → SpellsFields given items all
fields_back given [] all p q e = fields_none refl cc
fields_back given (key ∷ []) all p q e =
    let b = bind_ok (field_step key given) (λ more. fields_from more []) all e in
    let k = key_back key given b.0 p b.1 in
    let is : all ≡ awaits k.field given = let same : b.0 ≡ all = cc in sym same ∙ k.is in
    let clash : Some k.field ≡ None = sym (ap (λ (f : Fields). f.pending) is) ∙ q in
    cc
fields_back given (key ∷ value ∷ rest) all p q e =
    let b = bind_ok (field_step key given) (λ more. fields_from more (value ∷ rest)) all e in
    let k = key_back key given b.0 p b.1 in
    let c = bind_ok (field_step value b.0) (λ more. fields_from more rest) all b.2 in
    let stepped : step_by (Some k.field) value (awaits k.field given) ≡ Ok c.0 = subst (λ (f : Fields). field_step value f ≡ Ok c.0) k.is c.1 in
    let next : c.0 ≡ with_value k.field value given = let same : with_value k.field value (awaits k.field given) ≡ c.0 = cc in sym same ∙ value_awaited k.field value given in
    let read : fields_from (with_value k.field value given) rest ≡ Ok all = subst (λ (f : Fields). fields_from f rest ≡ Ok all) next c.2 in
    fields_more key value rest k.w k.field k.word k.known k.new (fields_back (with_value k.field value given) rest all (none_awaited k.field value given) q read) refl

awaited_back : (place : ℕ) (o : Option Field) (f g : Fields) → unless_awaited place o f ≡ Ok g → (o ≡ None) × (f ≡ g)
awaited_back place None f g e = (refl, cc)
awaited_back place (Some field) f g e = cc

pub all_fields_read : (place : ℕ) (items : List Sexp) (f : Fields) → SpellsFields no_fields items f → fields_at place items ≡ Ok f
all_fields_read place items f h = let r = fields_read h refl in rw (r.0, r.1) refl

pub all_fields_spelled : (place : ℕ) (items : List Sexp) (f : Fields) → fields_at place items ≡ Ok f → SpellsFields no_fields items f
all_fields_spelled place items f e =
    let b = bind_ok (fields_from no_fields items) (λ f. unless_awaited place f.pending f) f e in
    let a = awaited_back place b.0.pending b.0 f b.2 in
    subst (SpellsFields no_fields items) a.1 (fields_back no_fields items b.0 refl a.0 b.1)

-- schemas

pre_read : (scope : Scope) (predicates : Table) (field : Option Sexp) (c : Condition) → SpellsPrecondition scope predicates field c → pre_at scope predicates field ≡ Ok c
pre_read scope predicates None c h = ap (λ (x : Condition). Ok x) (sym h)
pre_read scope predicates (Some x) c h = condition_read scope predicates x c h

pre_back : (scope : Scope) (predicates : Table) (field : Option Sexp) (c : Condition) → pre_at scope predicates field ≡ Ok c → SpellsPrecondition scope predicates field c
pre_back scope predicates None c e = cc
pre_back scope predicates (Some x) c e = condition_spelled scope predicates x c e

post_read : (scope : Scope) (predicates functions : Table) (field : Option Sexp) (x : Effect) → SpellsResult scope predicates functions field x → post_at scope predicates functions field ≡ Ok x
post_read scope predicates functions None x h = ap (λ (y : Effect). Ok y) (sym h)
post_read scope predicates functions (Some t) x h = effect_read scope predicates functions t x h

post_back : (scope : Scope) (predicates functions : Table) (field : Option Sexp) (x : Effect) → post_at scope predicates functions field ≡ Ok x → SpellsResult scope predicates functions field x
post_back scope predicates functions None x e = cc
post_back scope predicates functions (Some t) x e = effect_spelled scope predicates functions t x e

pub schema_read : (d : Declared) (name : List ℕ) (f : Fields) (s : Schema) → SpellsSchema d name f s → schema_at d name f ≡ Ok s
unfolding schema_at
schema_read d name f s h =
    rw (params_field_read d.types.names f.params h.params h.are_params, pre_read (scope_in h.params d) d.predicates f.pre h.pre h.is_pre, post_read (scope_in h.params d) d.predicates d.functions f.effect h.effect h.is_effect)
    (ap (λ (t : Schema). Ok t) (sym h.whole))

pub schema_spelled : (d : Declared) (name : List ℕ) (f : Fields) (s : Schema) → schema_at d name f ≡ Ok s → SpellsSchema d name f s
unfolding schema_at
schema_spelled d name f s e =
    let ps = bind_ok (params_at d.types.names f.params) _ s e in
    let c = bind_ok (pre_at (scope_in ps.0 d) d.predicates f.pre) _ s ps.2 in
    let x = bind_ok (post_at (scope_in ps.0 d) d.predicates d.functions f.effect) _ s c.2 in
    let is : s ≡ schema_of name ps.0 c.0 x.0 = cc in
    record {
      params = ps.0;
      pre = c.0;
      effect = x.0;
      are_params = params_field_spelled d.types.names f.params ps.0 ps.1;
      is_pre = pre_back (scope_in ps.0 d) d.predicates f.pre c.0 c.1;
      is_effect = post_back (scope_in ps.0 d) d.predicates d.functions f.effect x.0 x.1;
      whole = is;
    }

-- actions

name_is : (x : Sexp) (w : Named) → IsWord x w → is_name w.1 ≡ true → name_at x ≡ Ok w
name_is x w h e = rw (h, e) refl

action_read : (d : Declared) (names : List (List ℕ)) (h : Headed) (s : Schema) (a : SpellsAction d h s) → is_declared a.name.1 names ≡ false → action_at d names h ≡ Ok (s, names ++ a.name.1 ∷ [])
unfolding action_at
action_read d names h s a n =
    rw (a.items, name_is a.first a.name a.named a.is_name, n, all_fields_read h.place a.rest a.fields a.are_fields, schema_read d a.name.1 a.fields s a.schema) refl

schema_name : (d : Declared) (h : Headed) (s : Schema) (a : SpellsAction d h s) → s.name ≡ a.name.1
schema_name d h s a = ap (λ (t : Schema). t.name) a.schema.whole

actions_read : (d : Declared) (names : List (List ℕ)) (done : List Schema) (hs : List Headed) (ss : List Schema) → SpellsEach d hs ss → AreNew names (map (λ s. s.name) ss) → actions_from d names done hs ≡ Ok (done ++ ss)
actions_read d names done [] [] h n = rw (append-nil done) refl
actions_read d names done [] (s ∷ ss) h n = absurd h
actions_read d names done (x ∷ hs) [] h n = absurd h
actions_read d names done (x ∷ hs) (s ∷ ss) h n =
    let same = schema_name d x s h.0 in
    let new : is_declared h.0.name.1 names ≡ false = subst (λ (w : List ℕ). is_declared w names ≡ false) same n.0 in
    let more : AreNew (names ++ h.0.name.1 ∷ []) (map (λ s. s.name) ss) = subst (λ (w : List ℕ). AreNew (names ++ w ∷ []) (map (λ s. s.name) ss)) same n.1 in
    rw (action_read d names x s h.0 new) (actions_read d (names ++ h.0.name.1 ∷ []) (done ++ s ∷ []) hs ss h.1 more ∙ ap (λ (l : List Schema). Ok l) (append_assoc done (s ∷ []) ss))

record IsAction (d : Declared) (names : List (List ℕ)) (h : Headed) (r : Schema × List (List ℕ)) : Type 0 where
  action : SpellsAction d h r.0
  new : is_declared action.name.1 names ≡ false
  more : r.1 ≡ names ++ action.name.1 ∷ []

action_back : (d : Declared) (names : List (List ℕ)) (h : Headed) (r : Schema × List (List ℕ)) → action_at d names h ≡ Ok r → IsAction d names h r
unfolding action_at
action_back d names h r e =
    let a = bind_ok (first_at h.place h.items) _ r e in
    let n = bind_ok (name_at a.0.0) _ r a.2 in
    let m = bind_ok (declare_at n.0 names) _ r n.2 in
    let f = bind_ok (fields_at h.place a.0.1) _ r m.2 in
    let s = bind_ok (schema_at d n.0.1 f.0) _ r f.2 in
    let is : (s.0, m.0) ≡ r = cc in
    let w = name_back a.0.0 n.0 n.1 in
    let b = declare_back (is_declared n.0.1 names) (n.0.0, cause.Clash n.0.1) (names ++ n.0.1 ∷ []) m.0 m.1 in
    subst (IsAction d names h) is (record {
      action = record {
        first = a.0.0;
        rest = a.0.1;
        name = n.0;
        fields = f.0;
        items = first_back h.place h.items a.0 a.1;
        named = w.0;
        is_name = w.1;
        are_fields = all_fields_spelled h.place a.0.1 f.0 f.1;
        schema = schema_spelled d n.0.1 f.0 s.0 s.1;
      };
      new = b.0;
      more = b.1;
    })

record AreMore (d : Declared) (names : List (List ℕ)) (done : List Schema) (hs : List Headed) (all : List Schema) : Type 0 where
  schemas : List Schema
  each : SpellsEach d hs schemas
  new : AreNew names (map (λ s. s.name) schemas)
  whole : all ≡ done ++ schemas

actions_back : (d : Declared) (names : List (List ℕ)) (done : List Schema) (hs : List Headed) (all : List Schema) → actions_from d names done hs ≡ Ok all → AreMore d names done hs all
actions_back d names done [] all e = let is : all ≡ done = cc in record { schemas = []; each = tt; new = tt; whole = is ∙ sym (append-nil done) }
actions_back d names done (x ∷ xs) all e =
    let b = bind_ok (action_at d names x) (λ r. actions_from d r.1 (done ++ r.0 ∷ []) xs) all e in
    let a = action_back d names x b.0 b.1 in
    let r = actions_back d b.0.1 (done ++ b.0.0 ∷ []) xs all b.2 in
    let same = schema_name d x b.0.0 a.action in
    record {
      schemas = b.0.0 ∷ r.schemas;
      each = (a.action, r.each);
      new = (subst (λ (w : List ℕ). is_declared w names ≡ false) (sym same) a.new, subst (λ (l : List (List ℕ)). AreNew l (map (λ s. s.name) r.schemas)) (a.more ∙ ap (λ (w : List ℕ). names ++ w ∷ []) (sym same)) r.new);
      whole = r.whole ∙ append_assoc done (b.0.0 ∷ []) r.schemas;
    }

pub actions_complete : (d : Declared) (hs : List Headed) (ss : List Schema) → SpellsActions d hs ss → actions_from d [] [] hs ≡ Ok ss
actions_complete d hs ss h = actions_read d [] [] hs ss h.each h.new

pub actions_spelled : (d : Declared) (hs : List Headed) (ss : List Schema) → actions_from d [] [] hs ≡ Ok ss → SpellsActions d hs ss
actions_spelled d hs ss e =
    let r = actions_back d [] [] hs ss e in
    subst (SpellsActions d hs) (sym r.whole) (record { each = r.each; new = r.new })
