-- Declarations that are spelled are read, and those that are read are spelled.
use Rattle.std.proofs.Common.{◌≡◌, ℕ, ◌+◌, true, false, List, [], ◌∷◌, ◌++◌, Result, Ok, Err, map, length, refl, sym, ap, subst, ◌∙◌, arith, append_assoc, add_assoc}
use Rattle.std.proofs.lemmas.List.{append-nil}
use Rattle.bd_base.specs.declared.text_err.Cause.TheVariants as cause
use Rattle.bd_base.specs.declared.text_err.TextErr.{TextErr}
use Rattle.bd_base.specs.declared.text_err.TextErr.TheVariants as errors
use Rattle.pddl_lex.specs.declared.sexp.Sexp.{Sexp}
use Rattle.pddl_form.specs.Fault.{Fault, Gives, Says}
use Rattle.pddl_form.specs.Trees.{Headed, is_name, must, head_at}
use Rattle.pddl_form.specs.Groups.{Group, Grouped, group, wrong, groups}
use Rattle.pddl_form.specs.Names.{is_declared}
use Rattle.pddl_form.specs.Things.{Table, no_rows}
use Rattle.pddl_form.specs.Reserved.{is_reserved, unreserved, declare_at}
use Rattle.pddl_domain.specs.Heads.{count_from, declaration_at, with_arity, predicate_in, predicates_at}
use Rattle.pddl_form.specs.Spells.{names_in, AreNew}
use Rattle.pddl_domain.specs.Spells.{IsHead, AreHeads, SpellsPredicates}
use Rattle.pddl_form.proofs.TypedLemmas.{typed_read, typed_back}
use Rattle.pddl_form.proofs.Laws.{bind_ok, declare_back}
use Rattle.pddl_form.proofs.HeadedLemmas.{IsHeaded, head_back, free_back, must_back}

count_read : (n : ℕ) (gs : List Group) → count_from n (map group gs) ≡ Ok (n + names_in gs)
count_read n [] = let e : n ≡ n + 0 = omega arith in ap (λ (k : ℕ). Ok k) e
count_read n (g ∷ gs) = count_read (n + length g.names) gs ∙ ap (λ (k : ℕ). Ok k) (add_assoc n (length g.names) (names_in gs))

count_all : (gs : List Group) → count_from 0 (map group gs) ≡ Ok (names_in gs)
count_all gs = let e : 0 + names_in gs ≡ names_in gs = omega arith in count_read 0 gs ∙ ap (λ (k : ℕ). Ok k) e

pub headed_of : (tree : Sexp) (name : List ℕ) (arity : ℕ) → IsHead tree name arity → Headed
headed_of tree name arity h = record { place = h.place; head = (h.head_place, name); items = h.items }

head_is : (tree : Sexp) (name : List ℕ) (arity : ℕ) (h : IsHead tree name arity) → head_at tree ≡ Ok (headed_of tree name arity h)
unfolding headed_of
head_is tree name arity h = rw (h.whole, h.named) refl

pub declaration_read : (names : List (List ℕ)) (tree : Sexp) (name : List ℕ) (arity : ℕ) (h : IsHead tree name arity) → is_declared name names ≡ false → declaration_at names tree ≡ Ok ((headed_of tree name arity h, arity), names ++ name ∷ [])
unfolding declaration_at headed_of
declaration_read names tree name arity h new =
    rw (head_is tree name arity h, h.free, h.is_name, new, typed_read h.place h.typed, count_all h.groups, h.counted) refl

predicates_read : (done : Table) (items : List Sexp) (ws : List (List ℕ)) (ns : List ℕ) → AreHeads items ws ns → AreNew done.names ws → predicates_at done items ≡ Ok (record { names = done.names ++ ws; numbers = done.numbers ++ ns })
predicates_read done [] [] [] h k = rw (append-nil done.names, append-nil done.numbers) refl
predicates_read done [] [] (n ∷ ns) h k = absurd h
predicates_read done [] (w ∷ ws) ns h k = absurd h
predicates_read done (x ∷ xs) [] ns h k = absurd h
predicates_read done (x ∷ xs) (w ∷ ws) [] h k = absurd h
predicates_read done (x ∷ xs) (w ∷ ws) (n ∷ ns) h k =
    let more : Table = record { names = done.names ++ w ∷ []; numbers = done.numbers ++ n ∷ [] } in
    let rest = predicates_read more xs ws ns h.1 k.1 in
    rw (declaration_read done.names x w n h.0 k.0) (rest ∙ rw (append_assoc done.names (w ∷ []) ws, append_assoc done.numbers (n ∷ []) ns) refl)

-- from the table to what is spelled

count_back : (n : ℕ) (list : List Grouped) (m : ℕ) → count_from n list ≡ Ok m → (gs : List Group) × (list ≡ map group gs) × (m ≡ n + names_in gs)
count_back n [] m e = let is : n ≡ m = cc in ([], refl, omega arith)
count_back n (group g ∷ list) m e =
    let h = count_back (n + length g.names) list m e in
    (g ∷ h.0, ap (λ (l : List Grouped). group g ∷ l) h.1, h.2 ∙ add_assoc n (length g.names) (names_in h.0))
count_back n (wrong f ∷ list) m e = cc

-- what a declaration that was read is
pub record IsDeclaration (names : List (List ℕ)) (tree : Sexp) (d : (Headed × ℕ) × List (List ℕ)) : Type 0 where
  pub spelled : IsHead tree d.0.0.head.1 d.0.1
  pub new : is_declared d.0.0.head.1 names ≡ false
  pub more : d.1 ≡ names ++ d.0.0.head.1 ∷ []

declared_by : (names : List (List ℕ)) (tree : Sexp) (h : Headed) (arity : ℕ) (more : List (List ℕ)) → IsHeaded tree h → is_reserved h.head.1 ≡ false → is_name h.head.1 ≡ true
    → (is_declared h.head.1 names ≡ false) × (more ≡ names ++ h.head.1 ∷ []) → (gs : List Group) × (groups true h.place h.items ≡ map group gs) × (arity ≡ 0 + names_in gs) → IsDeclaration names tree ((h, arity), more)
declared_by names tree h arity more k free name new counted = record {
  spelled = record {
    place = h.place;
    head_place = h.head.0;
    head = k.head;
    items = h.items;
    groups = counted.0;
    whole = k.whole;
    named = k.named;
    is_name = name;
    free = free;
    typed = typed_back true h.place h.items counted.0 counted.1;
    counted = omega (arith, counted.2);
  };
  new = new.0;
  more = new.1;
}

pub declaration_back : (names : List (List ℕ)) (tree : Sexp) (d : (Headed × ℕ) × List (List ℕ)) → declaration_at names tree ≡ Ok d → IsDeclaration names tree d
unfolding declaration_at
declaration_back names tree d e =
    let h = bind_ok (head_at tree) _ d e in
    let free = bind_ok (unreserved h.0) _ d h.2 in
    let name = bind_ok (must (is_name h.0.head.1) h.0.head.0) _ d free.2 in
    let new = bind_ok (declare_at h.0.head names) _ d name.2 in
    let count = bind_ok (count_from 0 (groups true h.0.place h.0.items)) _ d new.2 in
    let is : ((h.0, count.0), new.0) ≡ d = cc in
    subst (IsDeclaration names tree) is
    (declared_by names tree h.0 count.0 new.0 (head_back tree h.0 h.1) (free_back (is_reserved h.0.head.1) (h.0.place, cause.Unsupported h.0.head.1) free.0 free.1) (must_back (is_name h.0.head.1) h.0.head.0 name.0 name.1)
    (declare_back (is_declared h.0.head.1 names) (h.0.head.0, cause.Clash h.0.head.1) (names ++ h.0.head.1 ∷ []) new.0 new.1) (count_back 0 (groups true h.0.place h.0.items) count.0 count.1))

-- the rows behind those of the table, as they were spelled
record AreRows (done : Table) (items : List Sexp) (table : Table) : Type 0 where
  names : List (List ℕ)
  numbers : List ℕ
  heads : AreHeads items names numbers
  new : AreNew done.names names
  whole : table ≡ record { names = done.names ++ names; numbers = done.numbers ++ numbers }

same_rows : (done table : Table) → done ≡ table → table ≡ record { names = done.names ++ []; numbers = done.numbers ++ [] }
same_rows done table e = rw (append-nil done.names, append-nil done.numbers) (sym e)

rows_more : (done more table : Table) (x : Sexp) (xs : List Sexp) (d : (Headed × ℕ) × List (List ℕ)) → IsDeclaration done.names x d → with_arity d done ≡ more → AreRows more xs table → AreRows done (x ∷ xs) table
rows_more done more table x xs d h is r =
    let name : List ℕ = d.0.0.head.1 in
    let names : more.names ≡ done.names ++ name ∷ [] = ap (λ (t : Table). t.names) (sym is) ∙ h.more in
    let numbers : more.numbers ≡ done.numbers ++ d.0.1 ∷ [] = ap (λ (t : Table). t.numbers) (sym is) in
    record {
      names = name ∷ r.names;
      numbers = d.0.1 ∷ r.numbers;
      heads = (h.spelled, r.heads);
      new = (h.new, subst (λ (ns : List (List ℕ)). AreNew ns r.names) names r.new);
      whole = r.whole ∙ rw (names, numbers, append_assoc done.names (name ∷ []) r.names, append_assoc done.numbers (d.0.1 ∷ []) r.numbers) refl;
    }

predicates_back : (done : Table) (items : List Sexp) (table : Table) → predicates_at done items ≡ Ok table → AreRows done items table
predicates_back done [] table e = let is : done ≡ table = cc in record { names = []; numbers = []; heads = tt; new = tt; whole = same_rows done table is }
predicates_back done (x ∷ xs) table e =
    let m = bind_ok (predicate_in x done) (λ more. predicates_at more xs) table e in
    let d = bind_ok (declaration_at done.names x) (λ d. Ok (with_arity d done)) m.0 m.1 in
    let is : with_arity d.0 done ≡ m.0 = cc in
    rows_more done m.0 table x xs d.0 (declaration_back done.names x d.0 d.1) is (predicates_back m.0 xs table m.2)

-- the section

pub predicates_spelled : (items : List Sexp) (table : Table) → predicates_at no_rows items ≡ Ok table → SpellsPredicates items table
predicates_spelled items table e =
    let r = predicates_back no_rows items table e in
    let P : Table → Type 0 = SpellsPredicates items in
    subst P (sym r.whole) (record { heads = r.heads; new = r.new })

pub predicates_complete : (items : List Sexp) (table : Table) → SpellsPredicates items table → predicates_at no_rows items ≡ Ok table
predicates_complete items table h = predicates_read no_rows items table.names table.numbers h.heads h.new

no_predicates : (items : List Sexp) (f : Fault) → predicates_at no_rows items ≡ Err f → (table : Table) → SpellsPredicates items table → ⊥
no_predicates items f e table h = let c = predicates_complete items table h in cc

pub predicates_say : {X : Type 0} (view : X → Table) (items : List Sexp) (r : Result X TextErr) → Gives view r (predicates_at no_rows items) → Says view (SpellsPredicates items) r
predicates_say view items (Ok x) g = predicates_spelled items (view x) g
predicates_say view items (Err errors.NoMemory) g = tt
predicates_say view items (Err (errors.Over limit count)) g = absurd g
predicates_say view items (Err (errors.At place c)) g = no_predicates items (place, c) g
