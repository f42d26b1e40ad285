-- The names of a domain that was read are words, each declared once.
use Rattle.std.proofs.Common.{◌≡◌, ℕ, ◌==◌, Bool, true, false, cond, List, [], ◌∷◌, ◌++◌, Option, Some, None, Ok, Err, map, refl, sym, ap, subst, ◌∙◌}
use Rattle.std.specs.Prelude.{codes, slice_set}
use Rattle.bd_base.specs.declared.text_err.Cause.TheVariants as cause
use Rattle.pddl_lex.specs.declared.sexp.Sexp.{Sexp}
use Rattle.pddl_types.specs.declared.domains.Schema.{Schema}
use Rattle.pddl_form.specs.Fault.{Fault, ◌>>=◌}
use Rattle.pddl_form.specs.Trees.{Named, Headed, place_at, is_word, is_name, must, name_at, first_at}
use Rattle.pddl_form.specs.Names.{place_of, is_declared}
use Rattle.pddl_form.specs.Groups.{Group, Grouped, group, wrong, groups}
use Rattle.pddl_domain.specs.Types.{Types, only_object, mention_by, mention, mention_all, mention_kind, parent_at, reaches, give_by, give, give_all, type_group, types_from}
use Rattle.pddl_form.specs.Things.{Table, no_rows}
use Rattle.pddl_form.specs.Reserved.{declare_at}
use Rattle.pddl_domain.specs.Heads.{declaration_at, with_arity, fits_total, function_in, number_type_at, functions_from}
use Rattle.pddl_domain.specs.Domain.{Declared, types_section, things_section, predicates_section, functions_section, declared_at}
use Rattle.pddl_domain.specs.Outline.{outline_at}
use Rattle.pddl_domain.specs.Actions.{Fields, fields_at, schema_of, schema_at, action_at, actions_from, pre_at, post_at, scope_in}
use Rattle.pddl_domain.specs.Params.{params_at}
use Rattle.pddl_form.proofs.NameLemmas.{absent}
use Rattle.pddl_form.proofs.Laws.{bind_ok}
use Rattle.pddl_form.proofs.Laws.{declare_back}
use Rattle.pddl_domain.proofs.HeadLemmas.{declaration_back, predicates_spelled}
use Rattle.pddl_form.proofs.ThingLemmas.{things_spelled}
use Rattle.pddl_form.proofs.TypedLemmas.{typed_back, name_back}
use Rattle.pddl_form.proofs.SeenLemmas.{name_seen, AreSeen, AreAllSeen, AreGroupsSeen, typed_seen, AreOnce, none_once, once_more, groups_put_once}
use Rattle.pddl_types.specs.Readable.{IsName}
use Rattle.pddl_domain.specs.Spells.{AreHeads}

function_new : (tree : Sexp) (table more : Table) → function_in tree table ≡ Ok more → AreOnce table.names → AreOnce more.names
function_new tree table more e h =
    let d = bind_ok (declaration_at table.names tree) (λ d. fits_total d.0.0 d.0.1 >>= λ fit. Ok (with_arity d table)) more e in
    let f = bind_ok (fits_total d.0.0.0 d.0.0.1) (λ fit. Ok (with_arity d.0 table)) more d.2 in
    let is : with_arity d.0 table ≡ more = cc in
    let k = declaration_back table.names tree d.0 d.1 in
    let all : AreOnce d.0.1 = subst AreOnce (sym k.more) (once_more table.names d.0.0.0.head.1 h k.new (name_seen d.0.0.0.head.1 k.spelled.is_name)) in
    subst (λ (t : Table). AreOnce t.names) is all

functions_from_new : (place : ℕ) (waiting fresh : Bool) (table : Table) (xs : List Sexp) (all : Table) → functions_from place waiting fresh table xs ≡ Ok all → AreOnce table.names → AreOnce all.names
functions_from_new place true fresh table [] all e h = cc
functions_from_new place false fresh table [] all e h = let is : table ≡ all = cc in subst (λ (t : Table). AreOnce t.names) is h
functions_from_new place true fresh table (x ∷ xs) all e h =
    let n = bind_ok (number_type_at x) (λ u. functions_from place false false table xs) all e in
    functions_from_new place false false table xs all n.2 h
functions_from_new place false fresh table (x ∷ xs) all e h = by_test (is_word (codes "-") x) (functions_from_new place true false table xs all) (λ more. functions_from_new place false true more xs all) e
  where
    by_test : (t : Bool) → (functions_from place true false table xs ≡ Ok all → AreOnce table.names → AreOnce all.names) → ((more : Table) → functions_from place false true more xs ≡ Ok all → AreOnce more.names → AreOnce all.names)
        → cond t (must fresh (place_at x) >>= λ u. functions_from place true false table xs) (function_in x table >>= λ more. functions_from place false true more xs) ≡ Ok all → AreOnce all.names
    by_test true type name q = let m = bind_ok (must fresh (place_at x)) (λ u. functions_from place true false table xs) all q in type m.2 h
    by_test false type name q = let m = bind_ok (function_in x table) (λ more. functions_from place false true more xs) all q in name m.0 m.2 (function_new x table m.0 m.1 h)

functions_new : (section : Option Headed) (table : Table) → functions_section section ≡ Ok table → AreOnce table.names
functions_new None table e = let is : no_rows ≡ table = cc in subst (λ (t : Table). AreOnce t.names) is none_once
functions_new (Some h) table e = functions_from_new h.place false false no_rows h.items table e none_once

heads_seen : (xs : List Sexp) (ws : List (List ℕ)) (ns : List ℕ) → AreHeads xs ws ns → AreSeen ws
heads_seen [] [] [] h = tt
heads_seen [] [] (n ∷ ns) h = absurd h
heads_seen [] (w ∷ ws) ns h = absurd h
heads_seen (x ∷ xs) [] ns h = absurd h
heads_seen (x ∷ xs) (w ∷ ws) [] h = absurd h
heads_seen (x ∷ xs) (w ∷ ws) (n ∷ ns) h = (name_seen w h.0.is_name, heads_seen xs ws ns h.1)

predicates_new : (section : Option Headed) (table : Table) → predicates_section section ≡ Ok table → AreOnce table.names
predicates_new None table e = let is : no_rows ≡ table = cc in subst (λ (t : Table). AreOnce t.names) is none_once
predicates_new (Some h) table e =
    let s = predicates_spelled h.items table e in
    record { new = s.new; seen = heads_seen h.items table.names table.numbers s.heads }

-- types

mentioned : (r : Option ℕ) (name : List ℕ) (types : Types) → place_of name types.names ≡ r → IsName name → AreOnce types.names → AreOnce (mention_by r name types).1.names
mentioned (Some i) name types p s h = h
mentioned None name types p s h = once_more types.names name h (absent name types.names p) s

all_mentioned : (done : List (Named × ℕ)) (ws : List Named) (types : Types) → AreAllSeen ws → AreOnce types.names → AreOnce (mention_all done ws types).1.names
all_mentioned done [] types s h = h
all_mentioned done (w ∷ ws) types s h =
    all_mentioned (done ++ (w, (mention w.1 types).0) ∷ []) ws (mention w.1 types).1 s.1 (mentioned (place_of w.1 types.names) w.1 types refl s.0 h)

kind_mentioned : (kind : Option Named) (types : Types) → ((w : Named) → kind ≡ Some w → IsName w.1) → AreOnce types.names → AreOnce (mention_kind kind types).1.names
kind_mentioned None types s h = h
kind_mentioned (Some w) types s h = mentioned (place_of w.1 types.names) w.1 types refl (s w refl) h

given : (r : Option ℕ) (w : Named) (i k : ℕ) (types more : Types) → give_by r w i k types ≡ Ok more → types.names ≡ more.names
given (Some before) w i k types more e = by_test (before == k) (w.0, cause.Clash w.1) e
  where
    by_test : (t : Bool) (f : Fault) → cond t (Ok types) (Err f) ≡ Ok more → types.names ≡ more.names
    by_test true f q = let is : types ≡ more = cc in ap (λ (t : Types). t.names) is
    by_test false f q = cc
given None w i k types more e = by_test (reaches types.parents types.parents i (Some k)) (w.0, cause.Clash w.1) e
  where
    by_test : (t : Bool) (f : Fault) → cond t (Err f) (Ok (record { names = types.names; parents = slice_set types.parents i (Some k) })) ≡ Ok more → types.names ≡ more.names
    by_test true f q = cc
    by_test false f q =
        let is : record { names = types.names; parents = slice_set types.parents i (Some k) } ≡ more = cc in
        ap (λ (t : Types). t.names) is

pub gives : (w : Named) (i k : ℕ) (types more : Types) → give w i k types ≡ Ok more → types.names ≡ more.names
gives w i k types more e = by_tests (i == 0) (k == 0) (w.0, cause.Clash w.1) e
  where
    by_tests : (s t : Bool) (f : Fault) → cond s (cond t (Ok types) (Err f)) (give_by (parent_at types.parents i) w i k types) ≡ Ok more → types.names ≡ more.names
    by_tests true true f q = let is : types ≡ more = cc in ap (λ (t : Types). t.names) is
    by_tests true false f q = cc
    by_tests false t f q = given (parent_at types.parents i) w i k types more q

all_given : (k : ℕ) (ms : List (Named × ℕ)) (types more : Types) → give_all k ms types ≡ Ok more → types.names ≡ more.names
all_given k [] types more e = let is : types ≡ more = cc in ap (λ (t : Types). t.names) is
all_given k (m ∷ ms) types more e =
    let b = bind_ok (give m.0 m.1 k types) (λ more. give_all k ms more) more e in
    gives m.0 m.1 k types b.0 b.1 ∙ all_given k ms b.0 more b.2

types_groups : (types : Types) (list : List Grouped) (all : Types) → types_from types list ≡ Ok all → (gs : List Group) × (list ≡ map group gs)
types_groups types [] all e = ([], refl)
types_groups types (wrong f ∷ list) all e = cc
types_groups types (group g ∷ list) all e =
    let b = bind_ok (type_group g types) (λ more. types_from more list) all e in
    let r = types_groups b.0 list all b.2 in
    (g ∷ r.0, ap (λ (l : List Grouped). group g ∷ l) r.1)

types_new : (types : Types) (gs : List Group) (all : Types) → types_from types (map group gs) ≡ Ok all → AreGroupsSeen gs → AreOnce types.names → AreOnce all.names
types_new types [] all e s h = let is : types ≡ all = cc in subst (λ (t : Types). AreOnce t.names) is h
types_new types (g ∷ gs) all e s h =
    let b = bind_ok (type_group g types) (λ more. types_from more (map group gs)) all e in
    let named = mention_all [] g.names types in
    let kind = mention_kind g.kind named.1 in
    let once : AreOnce kind.1.names = kind_mentioned g.kind named.1 s.0.kind (all_mentioned [] g.names types s.0.names h) in
    types_new b.0 gs all b.2 s.1 (subst AreOnce (all_given kind.0 named.0 kind.1 b.0 b.1) once)

only_once : AreOnce only_object.names
only_once = record { new = (refl, tt); seen = (refl, tt) }

types_read : (section : Option Headed) (types : Types) → types_section section ≡ Ok types → AreOnce types.names
types_read None types e = let is : only_object ≡ types = cc in subst (λ (t : Types). AreOnce t.names) is only_once
types_read (Some h) types e =
    let g = types_groups only_object (groups false h.place h.items) types e in
    let read : types_from only_object (map group g.0) ≡ Ok types = subst (λ (l : List Grouped). types_from only_object l ≡ Ok types) g.1 e in
    types_new only_object g.0 types read (typed_seen (typed_back false h.place h.items g.0 g.1) refl) only_once

-- things

things_read : (types : List (List ℕ)) (section : Option Headed) (table : Table) → things_section types section ≡ Ok table → AreOnce table.names
things_read types None table e = let is : no_rows ≡ table = cc in subst (λ (t : Table). AreOnce t.names) is none_once
things_read types (Some h) table e = let s = things_spelled types h.place h.items table e in groups_put_once s.puts (typed_seen s.typed refl) none_once

-- all that is declared before the actions
pub record AreAllOnce (d : Declared) : Type 0 where
  pub types : AreOnce d.types.names
  pub constants : AreOnce d.constants.names
  pub predicates : AreOnce d.predicates.names
  pub functions : AreOnce d.functions.names

pub declared_once : (tree : Sexp) (d : Declared) → declared_at tree ≡ Ok d → AreAllOnce d
unfolding declared_at
declared_once tree d e =
    let o = bind_ok (outline_at tree) _ d e in
    let t = bind_ok (types_section o.0.types) _ d o.2 in
    let c = bind_ok (things_section t.0.names o.0.constants) _ d t.2 in
    let p = bind_ok (predicates_section o.0.predicates) _ d c.2 in
    let f = bind_ok (functions_section o.0.functions) _ d p.2 in
    let is : record { types = t.0; constants = c.0; predicates = p.0; functions = f.0; actions = o.0.actions } ≡ d = cc in
    subst AreAllOnce is (record {
      types = types_read o.0.types t.0 t.1;
      constants = things_read t.0.names o.0.constants c.0 c.1;
      predicates = predicates_new o.0.predicates p.0 p.1;
      functions = functions_new o.0.functions f.0 f.1;
    })

-- actions

abbrev pub names_of : List Schema → List (List ℕ)
names_of schemas = map (λ s. s.name) schemas

names_more : (schemas : List Schema) (s : Schema) → names_of (schemas ++ s ∷ []) ≡ names_of schemas ++ s.name ∷ []
names_more [] s = refl
names_more (x ∷ schemas) s = ap (λ (l : List (List ℕ)). x.name ∷ l) (names_more schemas s)

schema_name : (d : Declared) (name : List ℕ) (f : Fields) (s : Schema) → schema_at d name f ≡ Ok s → s.name ≡ name
unfolding schema_at
schema_name d name f s e =
    let ps = bind_ok (params_at d.types.names f.params) _ s e in
    let c = bind_ok (pre_at (scope_in ps.0 d) d.predicates f.pre) _ s ps.2 in
    let x = bind_ok (post_at (scope_in ps.0 d) d.predicates d.functions f.effect) _ s c.2 in
    let is : schema_of name ps.0 c.0 x.0 ≡ s = cc in
    sym (ap (λ (t : Schema). t.name) is)

IsNext : List (List ℕ) → Schema × List (List ℕ) → Type 0
IsNext names r = (is_declared r.0.name names ≡ false) × (r.1 ≡ names ++ r.0.name ∷ []) × IsName r.0.name

next_is : (names : List (List ℕ)) (w : Named) (m : List (List ℕ)) (s : Schema) → s.name ≡ w.1 → is_name w.1 ≡ true → declare_at w names ≡ Ok m → IsNext names (s, m)
unfolding IsNext
next_is names w m s n o e =
    let b = declare_back (is_declared w.1 names) (w.0, cause.Clash w.1) (names ++ w.1 ∷ []) m e in
    (subst (λ (l : List ℕ). is_declared l names ≡ false) (sym n) b.0, subst (λ (l : List ℕ). m ≡ names ++ l ∷ []) (sym n) b.1, subst IsName (sym n) (name_seen w.1 o))

action_new : (d : Declared) (names : List (List ℕ)) (h : Headed) (r : Schema × List (List ℕ)) → action_at d names h ≡ Ok r → IsNext names r
unfolding action_at
action_new d names h r e =
    let a = bind_ok (first_at h.place h.items) _ r e in
    let n = bind_ok (name_at a.0.0) _ r a.2 in
    let m = bind_ok (declare_at n.0 names) _ r n.2 in
    let f = bind_ok (fields_at h.place a.0.1) _ r m.2 in
    let s = bind_ok (schema_at d n.0.1 f.0) _ r f.2 in
    let is : (s.0, m.0) ≡ r = cc in
    subst (IsNext names) is (next_is names n.0 m.0 s.0 (schema_name d n.0.1 f.0 s.0 s.1) (name_back a.0.0 n.0 n.1).1 m.1)

pub actions_once : (d : Declared) (names : List (List ℕ)) (done : List Schema) (hs : List Headed) (all : List Schema) → actions_from d names done hs ≡ Ok all → names ≡ names_of done → AreOnce names → AreOnce (names_of all)
unfolding IsNext
actions_once d names done [] all e n h = let is : done ≡ all = cc in subst (λ l. AreOnce (names_of l)) is (subst AreOnce n h)
actions_once d names done (x ∷ xs) all e n h =
    let b = bind_ok (action_at d names x) (λ r. actions_from d r.1 (done ++ r.0 ∷ []) xs) all e in
    let k : IsNext names b.0 = action_new d names x b.0 b.1 in
    let w : List ℕ = b.0.0.name in
    let more : b.0.1 ≡ names_of (done ++ b.0.0 ∷ []) = k.1 ∙ ap (λ (l : List (List ℕ)). l ++ w ∷ []) n ∙ sym (names_more done b.0.0) in
    actions_once d b.0.1 (done ++ b.0.0 ∷ []) xs all b.2 more (subst AreOnce (sym k.1) (once_more names w h k.0 k.2))
