-- Facts mentioned in turn, with their numbers told at once: later mentions change no number.
use Rattle.std.proofs.Common.{◌≡◌, ℕ, ◌+◌, ◌<◌, ◌≤◌, Bool, true, false, cond, ◌||◌, List, [], ◌∷◌, ◌++◌, map, take, drop, length, get_or, refl, sym, ap, ◌∙◌, subst}
use Rattle.std.specs.List.{flat_map}
use Rattle.std.proofs.lemmas.Bool.{or_left, or_right, both_ways}
use Rattle.std.proofs.lemmas.List.{append-nil, map-append, take_more, take_all, drop_all}
use Rattle.std.proofs.lemmas.Grind.{flat_map-append}
use Rattle.bd_base.specs.Facts.{plus}
use Rattle.bd_task.specs.declared.ground.Action.{Action}
use Rattle.pddl_types.specs.declared.domains.Domain.{Domain}
use Rattle.pddl_types.specs.declared.problems.Problem.{Problem}
use Rattle.bd_ground.specs.declared.found.Instance.{Instance as Lent}
use Rattle.bd_ground.specs.declared.grounding_err.GroundErr.{GroundErr}
use Rattle.bd_ground.specs.Atoms.{same_atom, is_among, with_atom, mentioned_after, number_of}
use Rattle.bd_ground.specs.Instances.{Instance, things_of}
use Rattle.bd_ground.specs.Sight.{instance_of}
use Rattle.bd_ground.specs.Mention.{Overflows}
use Rattle.bd_ground.specs.Task.{needed, added, deleted, mentions_of, set_of, call_name, action_of}
use Rattle.bd_ground.proofs.AtomLemmas.{same-refl, is_among-append, is_among-with_atom, is_among-mentioned_after}
use Rattle.bd_ground.proofs.MentionLemmas.{mentioned_after-append, mentions-next, overflows_part}

number-append : (atoms : List (List ℕ)) (m g : List ℕ) → is_among g atoms ≡ true → number_of atoms g ≡ number_of (atoms ++ m ∷ []) g
number-append [] m g e = absurd (both_ways false refl e)
number-append (h ∷ atoms) m g e = by_test (same_atom g h) e (number-append atoms m g)
  where
    by_test : (t : Bool) → (t || is_among g atoms) ≡ true → (is_among g atoms ≡ true → number_of atoms g ≡ number_of (atoms ++ m ∷ []) g) → cond t 0 (1 + number_of atoms g) ≡ cond t 0 (1 + number_of (atoms ++ m ∷ []) g)
    by_test true f more = refl
    by_test false f more = ap (λ n. 1 + n) (more f)

number-with : (atoms : List (List ℕ)) (m g : List ℕ) → is_among g atoms ≡ true → number_of atoms g ≡ number_of (with_atom m atoms) g
number-with atoms m g e = by_test (is_among m atoms)
  where
    by_test : (t : Bool) → number_of atoms g ≡ number_of (cond t atoms (atoms ++ m ∷ [])) g
    by_test true = refl
    by_test false = number-append atoms m g e

-- later mentions leave a fact its number
number-after : (atoms more : List (List ℕ)) (g : List ℕ) → is_among g atoms ≡ true → number_of atoms g ≡ number_of (mentioned_after atoms more) g
number-after atoms [] g e = refl
number-after atoms (m ∷ more) g e = number-with atoms m g e ∙ number-after (with_atom m atoms) more g (is_among-with_atom g m atoms ∙ or_left _ _ e)

abbrev AreAmong : List (List ℕ) → List (List ℕ) → Type 0
AreAmong xs atoms = (g : List ℕ) → is_among g xs ≡ true → is_among g atoms ≡ true

numbers-after : (atoms more xs : List (List ℕ)) → AreAmong xs atoms → map (λ g. number_of atoms g) xs ≡ map (λ g. number_of (mentioned_after atoms more) g) xs
numbers-after atoms more [] among = refl
numbers-after atoms more (x ∷ xs) among =
    ap (λ n. n ∷ map (λ g. number_of atoms g) xs) (number-after atoms more x (among x (or_left _ _ (same-refl x))))
    ∙ ap (λ ns. number_of (mentioned_after atoms more) x ∷ ns) (numbers-after atoms more xs (λ g e. among g (or_right _ _ e)))

mentioned_among : (atoms xs : List (List ℕ)) → AreAmong xs (mentioned_after atoms xs)
mentioned_among atoms xs g e = is_among-mentioned_after g atoms xs ∙ or_right _ _ e

set-after : (atoms more xs : List (List ℕ)) → AreAmong xs atoms → set_of atoms xs ≡ set_of (mentioned_after atoms more) xs
set-after atoms more xs among = ap (plus []) (numbers-after atoms more xs among)

module _ {X : Type 0} (f : X → List (List ℕ)) where
  -- the first items' atoms are mentioned, and their numbers, the final ones, are listed
  pub record Noted (before now : List (List ℕ)) (ids : List ℕ) (xs : List X) (i : ℕ) : Type 0 where
    pub mentioned : mentioned_after now (flat_map f (drop i xs)) ≡ mentioned_after before (flat_map f xs)
    pub listed : ids ≡ map (λ g. number_of (mentioned_after before (flat_map f xs)) g) (flat_map f (take i xs))

  pub noted_start : (before : List (List ℕ)) (ids : List ℕ) (xs : List X) → ids ≡ [] → Noted before before ids xs 0
  noted_start before ids xs e = record { mentioned = refl; listed = e }

  pub noted-next : (before now new : List (List ℕ)) (ids more : List ℕ) (xs : List X) (i : ℕ) (x d : X) → i < length xs → x ≡ get_or xs i d → Noted before now ids xs i →
      new ≡ mentioned_after now (f x) → more ≡ ids ++ map (λ g. number_of new g) (f x) → Noted before new more xs (i + 1)
  noted-next before now new ids more xs i x d lt at noted made told =
      let mentioned = mentions-next f now new (mentioned_after before (flat_map f xs)) xs i x d lt at noted.mentioned made in
      let whole = mentioned_after before (flat_map f xs) in
      record {
        mentioned = mentioned;
        listed =
            told
            ∙ ap (λ z. ids ++ z) (numbers-after new (flat_map f (drop (i + 1) xs)) (f x) (subst (λ z. AreAmong (f x) z) (sym made) (mentioned_among now (f x))) ∙ ap (λ z. map (λ g. number_of z g) (f x)) mentioned)
            ∙ ap (λ z. z ++ map (λ g. number_of whole g) (f x)) noted.listed
            ∙ sym (map-append (λ g. number_of whole g) (flat_map f (take i xs)) (f x))
            ∙ ap (λ z. map (λ g. number_of whole g) (flat_map f (take i xs) ++ z)) (sym (append-nil (f x)))
            ∙ ap (λ z. map (λ g. number_of whole g) z) (sym (flat_map-append f (take i xs) (x ∷ [])))
            ∙ ap (λ z. map (λ g. number_of whole g) (flat_map f z)) (ap (λ z. take i xs ++ z ∷ []) at ∙ sym (take_more xs i d lt));
      }

  pub noted-overflow : (e : GroundErr) (before now : List (List ℕ)) (ids : List ℕ) (xs : List X) (i : ℕ) (x d : X) → i < length xs → x ≡ get_or xs i d → Noted before now ids xs i →
      Overflows e (length (mentioned_after now (f x))) → Overflows e (length (mentioned_after before (flat_map f xs)))
  noted-overflow e before now ids xs i x d lt at noted h = subst (λ (z : List (List ℕ)). Overflows e (length z)) noted.mentioned (overflows_part f e now xs i x d lt at h)

  pub noted_end : (before now : List (List ℕ)) (ids : List ℕ) (xs : List X) (i : ℕ) (all : List (List ℕ)) → Noted before now ids xs i → length xs ≤ i → flat_map f xs ≡ all →
      (now ≡ mentioned_after before all) × (ids ≡ map (λ g. number_of now g) all)
  noted_end before now ids xs i all noted le e =
      let whole = mentioned_after before (flat_map f xs) in
      let made : now ≡ whole = ap (λ z. mentioned_after now (flat_map f z)) (sym (drop_all i xs le)) ∙ noted.mentioned in (
        made ∙ ap (λ z. mentioned_after before z) e,
        noted.listed ∙ ap (λ z. map (λ g. number_of whole g) (flat_map f z)) (take_all i xs le) ∙ ap (λ z. map (λ g. number_of z g) (flat_map f xs)) (sym made) ∙ ap (λ z. map (λ g. number_of now g) z) e,
      )

-- later mentions leave a set and an action as they are, where their facts are mentioned
pub set_stays : (before mid after xs more : List (List ℕ)) (s : List ℕ) → s ≡ set_of mid xs → mid ≡ mentioned_after before xs → after ≡ mentioned_after mid more → s ≡ set_of after xs
set_stays before mid after xs more s e made end =
    e ∙ set-after mid more xs (subst (λ z. AreAmong xs z) (sym made) (mentioned_among before xs)) ∙ ap (λ z. set_of z xs) (sym end)

pub action_stays : (d : Domain) (p : Problem) (i : Instance) (before mid more : List (List ℕ)) → mid ≡ mentioned_after before (mentions_of d i) → action_of d p mid i ≡ action_of d p (mentioned_after mid more) i
action_stays d p i before mid more made =
    ap (λ z. record { name = (action_of d p mid i).name; cost = i.cost; pre = z; add = set_of mid (added i); del = set_of mid (deleted i) }) (set-after mid more (needed d i) (λ g e. all g (or_left _ _ e)))
    ∙ ap (λ z. record { name = (action_of d p mid i).name; cost = i.cost; pre = set_of last (needed d i); add = z; del = set_of mid (deleted i) }) (set-after mid more (added i) (λ g e. effects g (or_left _ _ e)))
    ∙ ap (λ z. record { name = (action_of d p mid i).name; cost = i.cost; pre = set_of last (needed d i); add = set_of last (added i); del = z }) (set-after mid more (deleted i) (λ g e. effects g (or_right _ _ e)))
  where
    last : List (List ℕ)
    last = mentioned_after mid more

    mentioned : AreAmong (mentions_of d i) mid
    mentioned = subst (λ z. AreAmong (mentions_of d i) z) (sym made) (mentioned_among before (mentions_of d i))

    all : (g : List ℕ) → (is_among g (needed d i) || is_among g (added i ++ deleted i)) ≡ true → is_among g mid ≡ true
    all g e = mentioned g (is_among-append g (needed d i) (added i ++ deleted i) ∙ e)

    effects : (g : List ℕ) → (is_among g (added i) || is_among g (deleted i)) ≡ true → is_among g mid ≡ true
    effects g e = all g (or_right _ _ (is_among-append g (added i) (deleted i) ∙ e))

pub action_is : (d : Domain) (p : Problem) (facts : List (List ℕ)) (i : Instance) (name pre add del : List ℕ) → name ≡ call_name (things_of d p) i.schema.name i.args → pre ≡ set_of facts (needed d i) → add ≡ set_of facts (added i) → del ≡ set_of facts (deleted i) →
    record { name = name; cost = i.cost; pre = pre; add = add; del = del } ≡ action_of d p facts i
action_is d p facts i name pre add del n e f g =
    ap (λ z. record { name = z; cost = i.cost; pre = pre; add = add; del = del }) n
    ∙ ap (λ z. record { name = call_name (things_of d p) i.schema.name i.args; cost = i.cost; pre = z; add = add; del = del }) e
    ∙ ap (λ z. record { name = call_name (things_of d p) i.schema.name i.args; cost = i.cost; pre = set_of facts (needed d i); add = z; del = del }) f
    ∙ ap (λ z. record { name = call_name (things_of d p) i.schema.name i.args; cost = i.cost; pre = set_of facts (needed d i); add = set_of facts (added i); del = z }) g

-- mentions in two parts
pub mentioned_both : (before mid after xs ys : List (List ℕ)) → mid ≡ mentioned_after before xs → after ≡ mentioned_after mid ys → after ≡ mentioned_after before (xs ++ ys)
mentioned_both before mid after xs ys e f = f ∙ ap (λ z. mentioned_after z ys) e ∙ sym (mentioned_after-append before xs ys)

pub overflows_behind : (e : GroundErr) (before mid xs ys : List (List ℕ)) → mid ≡ mentioned_after before xs → Overflows e (length (mentioned_after mid ys)) → Overflows e (length (mentioned_after before (xs ++ ys)))
overflows_behind e before mid xs ys f h = subst (λ (z : List (List ℕ)). Overflows e (length z)) (ap (λ z. mentioned_after z ys) f ∙ sym (mentioned_after-append before xs ys)) h

-- the facts of the first instances' actions are mentioned, and the actions are made
pub record Made (d : Domain) (p : Problem) (before now : List (List ℕ)) (actions : List Action) (list : List Lent) (i : ℕ) : Type 0 where
  pub mentioned : mentioned_after now (flat_map (λ x. mentions_of d (instance_of x)) (drop i list)) ≡ mentioned_after before (flat_map (λ x. mentions_of d (instance_of x)) list)
  pub made : actions ≡ map (λ x. action_of d p (mentioned_after before (flat_map (λ x. mentions_of d (instance_of x)) list)) (instance_of x)) (take i list)

pub made_start : (d : Domain) (p : Problem) (before : List (List ℕ)) (actions : List Action) (list : List Lent) → actions ≡ [] → Made d p before before actions list 0
made_start d p before actions list e = record { mentioned = refl; made = e }

pub made-next : (d : Domain) (p : Problem) (before now new : List (List ℕ)) (actions more : List Action) (list : List Lent) (i : ℕ) (x e : Lent) (a : Action) → i < length list → x ≡ get_or list i e → Made d p before now actions list i →
    new ≡ mentioned_after now (mentions_of d (instance_of x)) → a ≡ action_of d p new (instance_of x) → more ≡ actions ++ a ∷ [] → Made d p before new more list (i + 1)
made-next d p before now new actions more list i x e a lt at sofar made told pushed =
    let f = λ (y : Lent). mentions_of d (instance_of y) in
    let whole = mentioned_after before (flat_map f list) in
    let mentioned = mentions-next f now new whole list i x e lt at sofar.mentioned made in
    let act = λ (y : Lent). action_of d p whole (instance_of y) in
    record {
      mentioned = mentioned;
      made =
          pushed
          ∙ ap (λ z. z ++ a ∷ []) sofar.made
          ∙ ap (λ z. map act (take i list) ++ z ∷ []) (told ∙ action_stays d p (instance_of x) now new (flat_map f (drop (i + 1) list)) made ∙ ap (λ z. action_of d p z (instance_of x)) mentioned)
          ∙ sym (map-append act (take i list) (x ∷ []))
          ∙ ap (λ z. map act z) (ap (λ z. take i list ++ z ∷ []) at ∙ sym (take_more list i e lt));
    }

pub made-overflow : (d : Domain) (p : Problem) (e : GroundErr) (before now : List (List ℕ)) (actions : List Action) (list : List Lent) (i : ℕ) (x o : Lent) → i < length list → x ≡ get_or list i o → Made d p before now actions list i →
    Overflows e (length (mentioned_after now (mentions_of d (instance_of x)))) → Overflows e (length (mentioned_after before (flat_map (λ y. mentions_of d (instance_of y)) list)))
made-overflow d p e before now actions list i x o lt at sofar h =
    subst (λ (z : List (List ℕ)). Overflows e (length z)) sofar.mentioned (overflows_part (λ (y : Lent). mentions_of d (instance_of y)) e now list i x o lt at h)

pub made_end : (d : Domain) (p : Problem) (before now : List (List ℕ)) (actions : List Action) (list : List Lent) (i : ℕ) → Made d p before now actions list i → length list ≤ i →
    (now ≡ mentioned_after before (flat_map (λ x. mentions_of d (instance_of x)) list)) × (actions ≡ map (λ x. action_of d p now (instance_of x)) list)
made_end d p before now actions list i sofar le =
    let f = λ (y : Lent). mentions_of d (instance_of y) in
    let whole = mentioned_after before (flat_map f list) in
    let made : now ≡ whole = ap (λ z. mentioned_after now (flat_map f z)) (sym (drop_all i list le)) ∙ sofar.mentioned in
    (made, sofar.made ∙ ap (λ z. map (λ x. action_of d p whole (instance_of x)) z) (take_all i list le) ∙ ap (λ z. map (λ x. action_of d p z (instance_of x)) list) (sym made))
