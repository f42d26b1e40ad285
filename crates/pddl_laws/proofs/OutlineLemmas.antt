-- Outlines that are spelled are read, and those that are read are spelled.
use Rattle.std.proofs.Common.{◌≡◌, ℕ, Bool, true, false, List, [], ◌∷◌, Option, Some, None, Ok, refl, sym, ap, subst, ◌∙◌}
use Rattle.std.specs.Prelude.{codes}
use Rattle.std.specs.Str.{bytes_eq}
use Rattle.std.proofs.lemmas.Slice.Eq.{bytes_eq-Decides}
use Rattle.bd_base.specs.declared.text_err.Cause.TheVariants as cause
use Rattle.pddl_lex.specs.declared.sexp.Sexp.{Sexp}
use Rattle.pddl_lex.specs.declared.sexp.Sexp.TheViews.{out-Sexp}
use Rattle.pddl_form.specs.Fault.{◌>>=◌}
use Rattle.pddl_form.specs.Trees.{Named, Headed, word_at, begins, is_name, unless_odd, name_at, head_at, first_at, end_at, must}
use Rattle.pddl_form.specs.Titles.{once, requirement_at, requirements_at, title_at, body_at}
use Rattle.pddl_form.specs.Spells.{IsWord}
use Rattle.pddl_form.proofs.Laws.{bind_ok, needed_ok}
use Rattle.pddl_form.proofs.HeadedLemmas.{word_back, must_back}
use Rattle.pddl_form.proofs.TypedLemmas.{name_back}
use Rattle.pddl_domain.specs.Outline as domain
use Rattle.pddl_domain.specs.declared.outline.Part as domain_part
use Rattle.pddl_domain.specs.declared.outline.Part.TheVariants as of_domain
use Rattle.pddl_problem.specs.Outline as problem
use Rattle.pddl_problem.specs.Outline.{outline_at}
use Rattle.pddl_problem.specs.declared.outline.Part as problem_part
use Rattle.pddl_problem.specs.declared.outline.Part.TheVariants as of_problem
use Rattle.pddl_laws.specs.Terms.{SpellsList}
use Rattle.pddl_laws.specs.Outlines.{HasName, SpellsBody, AreKeywords, PutsDomain, SpellsDomainSections, domain_none, domain_more, PutsProblem, SpellsProblemSections, problem_none, problem_more, SpellsDomainOutline, SpellsProblemOutline}
use Rattle.pddl_laws.proofs.TermLemmas.{list_read, list_back, word_same, first_back}

same_bytes : (w : List ℕ) → bytes_eq w w ≡ true
same_bytes w = (bytes_eq-Decides w w).1 refl

pub end_back : (items : List Sexp) (u : Unit {0}) → end_at items ≡ Ok u → items ≡ []
end_back [] u e = refl
end_back (x ∷ xs) u e = cc

name_is : (x : Sexp) (w : Named) → IsWord x w → is_name w.1 ≡ true → name_at x ≡ Ok w
name_is x w h e = rw (h, e) refl

one_name : (items : List Sexp) (r : Sexp × List Sexp) → items ≡ r.0 ∷ r.1 → r.1 ≡ [] → items ≡ r.0 ∷ []
one_name items r e f = e ∙ ap (λ (xs : List Sexp). r.0 ∷ xs) f

-- titles

body_read : (kind : List ℕ) (tree : Sexp) (whole : Headed) (sections : List Sexp) → SpellsBody kind tree whole sections → body_at kind whole ≡ Ok sections
unfolding body_at
body_read kind tree whole sections b =
    rw (b.is_define, b.items, list_read b.title_tree b.title b.is_title, b.is_kind, same_bytes kind, b.named.only, name_is b.named.tree b.named.name b.named.word b.named.is_name) refl

named_back : (h : Headed) (r : Sexp × List Sexp) (w : Named) (u : Unit {0}) → h.items ≡ r.0 ∷ r.1 → name_at r.0 ≡ Ok w → end_at r.1 ≡ Ok u → HasName h
named_back h r w u i n e =
    let b = name_back r.0 w n in
    record { tree = r.0; name = w; only = one_name h.items r i (end_back r.1 u e); word = b.0; is_name = b.1 }

record IsTitle (kind : List ℕ) (tree : Sexp) : Type 0 where
  title : Headed
  list : SpellsList tree title
  is_kind : title.head.1 ≡ kind
  named : HasName title

title_back : (kind : List ℕ) (tree : Sexp) (u : Unit {0}) → title_at kind tree ≡ Ok u → IsTitle kind tree
title_back kind tree u e =
    let t = bind_ok (head_at tree) _ u e in
    let k = bind_ok (must (bytes_eq t.0.head.1 kind) t.0.head.0) _ u t.2 in
    let f = bind_ok (first_at t.0.place t.0.items) _ u k.2 in
    let n = bind_ok (name_at f.0.0) _ u f.2 in
    record {
      title = t.0;
      list = list_back tree t.0 t.1;
      is_kind = word_same t.0.head.1 kind (must_back (bytes_eq t.0.head.1 kind) t.0.head.0 k.0 k.1);
      named = named_back t.0 f.0 n.0 u (first_back t.0.place t.0.items f.0 f.1) n.1 n.2;
    }

body_back : (kind : List ℕ) (tree : Sexp) (whole : Headed) (sections : List Sexp) → SpellsList tree whole → body_at kind whole ≡ Ok sections → SpellsBody kind tree whole sections
unfolding body_at
body_back kind tree whole sections l e =
    let k = bind_ok (must (bytes_eq whole.head.1 (codes "define")) whole.head.0) _ sections e in
    let f = bind_ok (first_at whole.place whole.items) _ sections k.2 in
    let t = bind_ok (title_at kind f.0.0) _ sections f.2 in
    let is : f.0.1 ≡ sections = cc in
    let b = title_back kind f.0.0 t.0 t.1 in
    record {
      list = l;
      is_define = word_same whole.head.1 (codes "define") (must_back (bytes_eq whole.head.1 (codes "define")) whole.head.0 k.0 k.1);
      title_tree = f.0.0;
      title = b.title;
      items = first_back whole.place whole.items f.0 f.1 ∙ ap (λ (xs : List Sexp). f.0.0 ∷ xs) is;
      is_title = b.list;
      is_kind = b.is_kind;
      named = b.named;
    }

-- keywords

keyword_read : (x : Sexp) (w : Named) → IsWord x w → begins 58 w.1 ≡ true → requirement_at x ≡ Ok w
keyword_read x w h e = rw (h, e) refl

keywords_read : (xs : List Sexp) → AreKeywords xs → requirements_at xs ≡ Ok tt
keywords_read [] h = refl
keywords_read (x ∷ xs) h = rw (keyword_read x h.0.0 h.0.1 h.0.2) (keywords_read xs h.1)

odd_back : (t : Bool) (v w : Named) → unless_odd t v ≡ Ok w → t ≡ true
odd_back true v w e = refl
odd_back false v w e = cc

keywords_back : (xs : List Sexp) (u : Unit {0}) → requirements_at xs ≡ Ok u → AreKeywords xs
keywords_back [] u e = tt
keywords_back (x ∷ xs) u e =
    let r = bind_ok (requirement_at x) (λ w. requirements_at xs) u e in
    let w = bind_ok (word_at x) (λ w. unless_odd (begins 58 w.1) w) r.0 r.1 in
    ((w.0, word_back (out-Sexp x) w.0 w.1, odd_back (begins 58 w.0.1) w.0 r.0 w.2), keywords_back xs u r.2)

-- a section that comes once

once_read : (h : Headed) (o : Option Headed) → o ≡ None → once h o ≡ Ok (Some h)
once_read h o e = rw e refl

once_back : (h : Headed) (o s : Option Headed) → once h o ≡ Ok s → (o ≡ None) × (s ≡ Some h)
once_back h None s e = (refl, cc)
once_back h (Some x) s e = cc

-- sections of a domain

domain_put : (part : domain_part.Part) (h : Headed) (o next : domain.Outline) → PutsDomain part h o next → domain.put_part h (Some part) o ≡ Ok next
domain_put of_domain.Requirements h o next p = rw (p.0, keywords_read h.items p.1, p.2) refl
domain_put of_domain.Types h o next p = rw (p.0, p.1) refl
domain_put of_domain.Constants h o next p = rw (p.0, p.1) refl
domain_put of_domain.Predicates h o next p = rw (p.0, p.1) refl
domain_put of_domain.Functions h o next p = rw (p.0, p.1) refl
domain_put of_domain.Action h o next p = rw p refl

domain_read : {o : domain.Outline} {items : List Sexp} {all : domain.Outline} → SpellsDomainSections o items all → domain.sections_at o items ≡ Ok all
domain_read (domain_none i a) = rw (i, a) refl
domain_read {o} (domain_more x xs h part next l k p more i) = rw (i, list_read x h l, k, domain_put part h o next p) (domain_read more)

domain_put_back : (part : domain_part.Part) (h : Headed) (o next : domain.Outline) → domain.put_part h (Some part) o ≡ Ok next → PutsDomain part h o next
domain_put_back of_domain.Requirements h o next e =
    let s = bind_ok (once h o.requirements) (λ s. requirements_at h.items >>= λ u. Ok (record o { requirements = s })) next e in
    let u = bind_ok (requirements_at h.items) (λ u. Ok (record o { requirements = s.0 })) next s.2 in
    let b = once_back h o.requirements s.0 s.1 in
    let is : next ≡ record o { requirements = s.0 } = cc in
    (b.0, keywords_back h.items u.0 u.1, is ∙ ap (λ (x : Option Headed). record o { requirements = x }) b.1)
domain_put_back of_domain.Types h o next e =
    let s = bind_ok (once h o.types) (λ s. Ok (record o { types = s })) next e in
    let b = once_back h o.types s.0 s.1 in
    let is : next ≡ record o { types = s.0 } = cc in
    (b.0, is ∙ ap (λ (x : Option Headed). record o { types = x }) b.1)
domain_put_back of_domain.Constants h o next e =
    let s = bind_ok (once h o.constants) (λ s. Ok (record o { constants = s })) next e in
    let b = once_back h o.constants s.0 s.1 in
    let is : next ≡ record o { constants = s.0 } = cc in
    (b.0, is ∙ ap (λ (x : Option Headed). record o { constants = x }) b.1)
domain_put_back of_domain.Predicates h o next e =
    let s = bind_ok (once h o.predicates) (λ s. Ok (record o { predicates = s })) next e in
    let b = once_back h o.predicates s.0 s.1 in
    let is : next ≡ record o { predicates = s.0 } = cc in
    (b.0, is ∙ ap (λ (x : Option Headed). record o { predicates = x }) b.1)
domain_put_back of_domain.Functions h o next e =
    let s = bind_ok (once h o.functions) (λ s. Ok (record o { functions = s })) next e in
    let b = once_back h o.functions s.0 s.1 in
    let is : next ≡ record o { functions = s.0 } = cc in
    (b.0, is ∙ ap (λ (x : Option Headed). record o { functions = x }) b.1)
domain_put_back of_domain.Action h o next e = cc

domain_part_back : (part : Option domain_part.Part) (h : Headed) (o next : domain.Outline) → domain.put_part h part o ≡ Ok next → (p : domain_part.Part) × (part ≡ Some p) × PutsDomain p h o next
domain_part_back None h o next e = cc
domain_part_back (Some p) h o next e = (p, refl, domain_put_back p h o next e)

domain_back : (o : domain.Outline) (items : List Sexp) (all : domain.Outline) → domain.sections_at o items ≡ Ok all → SpellsDomainSections o items all
domain_back o [] all e = domain_none refl cc
domain_back o (x ∷ xs) all e =
    let h = bind_ok (head_at x) (λ h. domain.section_in h o >>= λ more. domain.sections_at more xs) all e in
    let s = bind_ok (domain.section_in h.0 o) (λ more. domain.sections_at more xs) all h.2 in
    let p = domain_part_back (domain.part_of h.0.head.1) h.0 o s.0 s.1 in
    domain_more x xs h.0 p.0 s.0 (list_back x h.0 h.1) p.1 p.2 (domain_back s.0 xs all s.2) refl

pub domain_outline_read : (tree : Sexp) (o : domain.Outline) → SpellsDomainOutline tree o → domain.outline_at tree ≡ Ok o
domain_outline_read tree o h = rw (list_read tree h.whole h.body.list, body_read (codes "domain") tree h.whole h.sections h.body) (domain_read h.each)

pub domain_outline_spelled : (tree : Sexp) (o : domain.Outline) → domain.outline_at tree ≡ Ok o → SpellsDomainOutline tree o
domain_outline_spelled tree o e =
    let w = bind_ok (head_at tree) (λ whole. body_at (codes "domain") whole >>= λ sections. domain.sections_at domain.no_sections sections) o e in
    let b = bind_ok (body_at (codes "domain") w.0) (λ sections. domain.sections_at domain.no_sections sections) o w.2 in
    record { whole = w.0; sections = b.0; body = body_back (codes "domain") tree w.0 b.0 (list_back tree w.0 w.1) b.1; each = domain_back domain.no_sections b.0 o b.2 }

-- sections of a problem

name_read : (h : Headed) → HasName h → problem.domain_at h ≡ Ok tt
name_read h n = rw (n.only, name_is n.tree n.name n.word n.is_name) refl

problem_put : (part : problem_part.Part) (h : Headed) (o next : problem.Outline) → PutsProblem part h o next → problem.put_part h (Some part) o ≡ Ok next
problem_put of_problem.Domain h o next p = rw (p.0, name_read h p.1, p.2) refl
problem_put of_problem.Requirements h o next p = rw (p.0, keywords_read h.items p.1, p.2) refl
problem_put of_problem.Objects h o next p = rw (p.0, p.1) refl
problem_put of_problem.Init h o next p = rw (p.0, p.1) refl
problem_put of_problem.Goal h o next p = rw (p.0, p.1) refl
problem_put of_problem.Metric h o next p = rw (p.0, p.1) refl

problem_read : {o : problem.Outline} {items : List Sexp} {all : problem.Outline} → SpellsProblemSections o items all → problem.sections_at o items ≡ Ok all
problem_read (problem_none i a) = rw (i, a) refl
problem_read {o} (problem_more x xs h part next l k p more i) = rw (i, list_read x h l, k, problem_put part h o next p) (problem_read more)

has_name_back : (h : Headed) (u : Unit {0}) → problem.domain_at h ≡ Ok u → HasName h
has_name_back h u e =
    let f = bind_ok (first_at h.place h.items) (λ first. name_at first.0 >>= λ name. end_at first.1) u e in
    let n = bind_ok (name_at f.0.0) (λ name. end_at f.0.1) u f.2 in
    named_back h f.0 n.0 u (first_back h.place h.items f.0 f.1) n.1 n.2

problem_put_back : (part : problem_part.Part) (h : Headed) (o next : problem.Outline) → problem.put_part h (Some part) o ≡ Ok next → PutsProblem part h o next
problem_put_back of_problem.Domain h o next e =
    let s = bind_ok (once h o.domain) (λ s. problem.domain_at h >>= λ u. Ok (record o { domain = s })) next e in
    let u = bind_ok (problem.domain_at h) (λ u. Ok (record o { domain = s.0 })) next s.2 in
    let b = once_back h o.domain s.0 s.1 in
    let is : next ≡ record o { domain = s.0 } = cc in
    (b.0, has_name_back h u.0 u.1, is ∙ ap (λ (x : Option Headed). record o { domain = x }) b.1)
problem_put_back of_problem.Requirements h o next e =
    let s = bind_ok (once h o.requirements) (λ s. requirements_at h.items >>= λ u. Ok (record o { requirements = s })) next e in
    let u = bind_ok (requirements_at h.items) (λ u. Ok (record o { requirements = s.0 })) next s.2 in
    let b = once_back h o.requirements s.0 s.1 in
    let is : next ≡ record o { requirements = s.0 } = cc in
    (b.0, keywords_back h.items u.0 u.1, is ∙ ap (λ (x : Option Headed). record o { requirements = x }) b.1)
problem_put_back of_problem.Objects h o next e =
    let s = bind_ok (once h o.objects) (λ s. Ok (record o { objects = s })) next e in
    let b = once_back h o.objects s.0 s.1 in
    let is : next ≡ record o { objects = s.0 } = cc in
    (b.0, is ∙ ap (λ (x : Option Headed). record o { objects = x }) b.1)
problem_put_back of_problem.Init h o next e =
    let s = bind_ok (once h o.init) (λ s. Ok (record o { init = s })) next e in
    let b = once_back h o.init s.0 s.1 in
    let is : next ≡ record o { init = s.0 } = cc in
    (b.0, is ∙ ap (λ (x : Option Headed). record o { init = x }) b.1)
problem_put_back of_problem.Goal h o next e =
    let s = bind_ok (once h o.goal) (λ s. Ok (record o { goal = s })) next e in
    let b = once_back h o.goal s.0 s.1 in
    let is : next ≡ record o { goal = s.0 } = cc in
    (b.0, is ∙ ap (λ (x : Option Headed). record o { goal = x }) b.1)
problem_put_back of_problem.Metric h o next e =
    let s = bind_ok (once h o.metric) (λ s. Ok (record o { metric = s })) next e in
    let b = once_back h o.metric s.0 s.1 in
    let is : next ≡ record o { metric = s.0 } = cc in
    (b.0, is ∙ ap (λ (x : Option Headed). record o { metric = x }) b.1)

problem_part_back : (part : Option problem_part.Part) (h : Headed) (o next : problem.Outline) → problem.put_part h part o ≡ Ok next → (p : problem_part.Part) × (part ≡ Some p) × PutsProblem p h o next
problem_part_back None h o next e = cc
problem_part_back (Some p) h o next e = (p, refl, problem_put_back p h o next e)

problem_back : (o : problem.Outline) (items : List Sexp) (all : problem.Outline) → problem.sections_at o items ≡ Ok all → SpellsProblemSections o items all
problem_back o [] all e = problem_none refl cc
problem_back o (x ∷ xs) all e =
    let h = bind_ok (head_at x) (λ h. problem.section_in h o >>= λ more. problem.sections_at more xs) all e in
    let s = bind_ok (problem.section_in h.0 o) (λ more. problem.sections_at more xs) all h.2 in
    let p = problem_part_back (problem.part_of h.0.head.1) h.0 o s.0 s.1 in
    problem_more x xs h.0 p.0 s.0 (list_back x h.0 h.1) p.1 p.2 (problem_back s.0 xs all s.2) refl

pub problem_outline_read : (tree : Sexp) (b : problem.Body) → SpellsProblemOutline tree b → outline_at tree ≡ Ok b
unfolding outline_at
problem_outline_read tree b h =
    rw (list_read tree h.whole h.body.list, body_read (codes "problem") tree h.whole h.sections h.body, problem_read h.each, h.init, h.goal, sym h.objects, sym h.metric) refl

pub problem_outline_spelled : (tree : Sexp) (b : problem.Body) → outline_at tree ≡ Ok b → SpellsProblemOutline tree b
unfolding outline_at
problem_outline_spelled tree b e =
    let w = bind_ok (head_at tree) _ b e in
    let i = bind_ok (body_at (codes "problem") w.0) _ b w.2 in
    let o = bind_ok (problem.sections_at problem.no_sections i.0) _ b i.2 in
    let n = bind_ok (problem.required w.0.place (codes ":init") o.0.init) _ b o.2 in
    let g = bind_ok (problem.required w.0.place (codes ":goal") o.0.goal) _ b n.2 in
    let is : record { objects = o.0.objects; init = n.0; goal = g.0; metric = o.0.metric } ≡ b = cc in
    subst (SpellsProblemOutline tree) is (record {
      whole = w.0;
      sections = i.0;
      all = o.0;
      body = body_back (codes "problem") tree w.0 i.0 (list_back tree w.0 w.1) i.1;
      each = problem_back problem.no_sections i.0 o.0 o.1;
      objects = refl;
      init = needed_ok (w.0.place, cause.Missing (codes ":init")) o.0.init n.0 n.1;
      goal = needed_ok (w.0.place, cause.Missing (codes ":goal")) o.0.goal g.0 g.1;
      metric = refl;
    })
