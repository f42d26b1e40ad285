-- A fact that only marked kids touch: the marked kids do to it what all do.
use Rattle.std.proofs.Common.{◌≡◌, ℕ, Bool, true, false, not, ◌&&◌, ◌||◌, eqb, List, [], ◌∷◌, refl, ap, ◌∙◌, inl, inr}
use Rattle.std.specs.List.{list_any, list_all}
use Rattle.std.proofs.lemmas.Bool.{both_ways}
use Rattle.bd_base.specs.Facts.{has}
use Rattle.bd_base.specs.Pairs.{is_before}
use Rattle.bd_links.specs.Effects.{Kid, Order, links, is_linked, is_needed, gives, is_given, is_deleted}
use Rattle.bd_links.proofs.Members.{In, here, there}
use Rattle.bd_subtask.specs.Level.{is_marked, part_of}
use Rattle.bd_subtask.proofs.PartLemmas.{Touches, any_part, all_part}

-- tests that agree at each kid
any_alike : (t u : Kid → Bool) (ks : List Kid) → ((k : Kid) → In k ks → t k ≡ u k) → list_any t ks ≡ list_any u ks
any_alike t u [] h = refl
any_alike t u (k ∷ ks) h = ap (λ b. b || list_any t ks) (h k here) ∙ ap (λ z. u k || z) (any_alike t u ks (λ x i. h x (there i)))

all_alike : (t u : Kid → Bool) (ks : List Kid) → ((k : Kid) → In k ks → t k ≡ u k) → list_all t ks ≡ list_all u ks
all_alike t u [] h = refl
all_alike t u (k ∷ ks) h = ap (λ b. b && list_all t ks) (h k here) ∙ ap (λ z. u k && z) (all_alike t u ks (λ x i. h x (there i)))

guarded : (m b x y : Bool) → (b ≡ true → m ≡ true) → x ≡ y → (m && (b && x)) ≡ (b && y)
guarded true b x y f e = ap (λ z. b && z) e
guarded false true x y f e = absurd (both_ways false refl (f refl))
guarded false false x y f e = refl

guarded_one : (m b : Bool) → (b ≡ true → m ≡ true) → (m && b) ≡ b
guarded_one true b f = refl
guarded_one false true f = absurd (both_ways false refl (f refl))
guarded_one false false f = refl

guarded_link : (m b h x y : Bool) → (h ≡ true → m ≡ true) → x ≡ y → (m && ((b && h) && x)) ≡ ((b && h) && y)
guarded_link true b h x y f e = ap (λ z. (b && h) && z) e
guarded_link false b true x y f e = absurd (both_ways false refl (f refl))
guarded_link false true false x y f e = refl
guarded_link false false false x y f e = refl

guarded_yield : (m e h b : Bool) → (h ≡ true → m ≡ true) → (not m || ((e || not h) || b)) ≡ ((e || not h) || b)
guarded_yield true e h b f = refl
guarded_yield false e true b f = absurd (both_ways false refl (f refl))
guarded_yield false true false b f = refl
guarded_yield false false false b f = refl

guarded_aside : (m e g h b c : Bool) → (h ≡ true → m ≡ true) → (not m || ((((e || g) || not h) || b) || c)) ≡ ((((e || g) || not h) || b) || c)
guarded_aside true e g h b c f = refl
guarded_aside false e g true b c f = absurd (both_ways false refl (f refl))
guarded_aside false true g false b c f = refl
guarded_aside false false true false b c f = refl
guarded_aside false false false false b c f = refl

module _ (order : Order) (marks : List Bool) (kids : List Kid) (p : ℕ) (h : (k : Kid) → In k kids → Touches p k → is_marked marks k.0 ≡ true) where
  abbrev marked : Kid → Bool
  marked k = is_marked marks k.0

  abbrev part : List Kid
  part = part_of marks kids

  yields_alike : (i : ℕ) → list_all (λ (d : Kid). eqb d.0 i || not (has d.1.effects.del p) || is_before order d.0 i) part ≡ list_all (λ (d : Kid). eqb d.0 i || not (has d.1.effects.del p) || is_before order d.0 i) kids
  yields_alike i =
      all_part marked (λ (d : Kid). eqb d.0 i || not (has d.1.effects.del p) || is_before order d.0 i) kids
      ∙ all_alike _ _ kids (λ d k. guarded_yield (marked d) (eqb d.0 i) (has d.1.effects.del p) (is_before order d.0 i) (λ e. h d k (inr (inr e))))

  pub given_alike : is_given order part p ≡ is_given order kids p
  given_alike =
      any_part marked (gives order part p) kids
      ∙ any_alike _ _ kids (λ i k. guarded (marked i) (has i.1.effects.add p) _ _ (λ e. h i k (inr (inl e))) (yields_alike i.0))

  aside_alike : (i j : ℕ) → list_all (λ (d : Kid). eqb d.0 i || eqb d.0 j || not (has d.1.effects.del p) || is_before order d.0 i || is_before order j d.0) part ≡ list_all (λ (d : Kid). eqb d.0 i || eqb d.0 j || not (has d.1.effects.del p) || is_before order d.0 i || is_before order j d.0) kids
  aside_alike i j =
      all_part marked (λ (d : Kid). eqb d.0 i || eqb d.0 j || not (has d.1.effects.del p) || is_before order d.0 i || is_before order j d.0) kids
      ∙ all_alike _ _ kids (λ d k. guarded_aside (marked d) (eqb d.0 i) (eqb d.0 j) (has d.1.effects.del p) (is_before order d.0 i) (is_before order j d.0) (λ e. h d k (inr (inr e))))

  linked_alike : (j : ℕ) → is_linked order part j p ≡ is_linked order kids j p
  linked_alike j =
      any_part marked (links order part j p) kids
      ∙ any_alike _ _ kids (λ i k. guarded_link (marked i) (is_before order i.0 j) (has i.1.effects.add p) _ _ (λ e. h i k (inr (inl e))) (aside_alike i.0 j))

  pub needed_alike : is_needed order part p ≡ is_needed order kids p
  needed_alike =
      any_part marked (λ (j : Kid). has j.1.effects.need p && not (is_linked order part j.0 p)) kids
      ∙ any_alike _ _ kids (λ j k. guarded (marked j) (has j.1.effects.need p) _ _ (λ e. h j k (inl e)) (ap not (linked_alike j.0)))

  pub deleted_alike : is_deleted order part p ≡ is_deleted order kids p
  deleted_alike =
      ap (λ z. z && not (is_given order part p)) (
      any_part marked (λ (d : Kid). has d.1.effects.del p) kids
      ∙ any_alike _ _ kids (λ d k. guarded_one (marked d) (has d.1.effects.del p) (λ e. h d k (inr (inr e)))))
      ∙ ap (λ z. list_any (λ (d : Kid). has d.1.effects.del p) kids && not z) given_alike
