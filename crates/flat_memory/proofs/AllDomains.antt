-- The bytes of all domains after those of one change.
use Rattle.std.proofs.Common.{◌≡◌, ℕ, ◌<◌, inl, inr, true, false, eqb, List, [], length, replicate, get_or, set, refl, ap, arith}
use Rattle.std.proofs.Math.Path.{fun_ext}
use Rattle.std.proofs.lemmas.Bool.{cases_lt, cases_eq}
use Rattle.std.proofs.lemmas.Bool.Decides.{nat_tests}
use Rattle.std.proofs.lemmas.List.{get_or-set_same, get_or-set_other, get_or_read, get_or-replicate, get_or_past, length-replicate}
use Rattle.mind_base.specs.Pending.{PendingView}
use Rattle.mind_base.specs.Span.{SpanView}
use Rattle.flat_memory.specs.FlatMemory.{byte_among, byte_in, stored_among, byte_stored, zeroed_among, zeroed}

-- domains that keep no page
pub byte_in-none : (domains : List (List (ℕ × List ℕ))) (n : ℕ) → domains ≡ replicate n [] → byte_in (record { domains = domains }) ≡ (λ _ _. 0)
byte_in-none domains n e = fun_ext (λ d. fun_ext (λ a. at d a)) where
  none : (d : ℕ) → get_or domains d [] ≡ []
  none d = elim (cases_lt d n) [
    | inl below ↦ rw e (get_or-replicate n d [] [] below)
    | inr past ↦ rw e (get_or_past (replicate n []) d [] (rw length-replicate past))
  ]

  at : (d a : ℕ) → byte_in (record { domains = domains }) d a ≡ 0
  at d a = rw (none d) refl

module _ (domains : List (List (ℕ × List ℕ))) (domain : ℕ) (old new : List (ℕ × List ℕ)) (there : domain < length domains) (read : old ≡ get_or domains domain old) where
  here : (d : ℕ) → d ≡ domain → get_or (set domains domain new) d [] ≡ new
  here d e = rw e (get_or-set_same domains domain new [] there)

  was : (d : ℕ) → d ≡ domain → old ≡ get_or domains d []
  was d e = rw e (get_or_read domains domain old there read [])

  -- a store takes effect in one domain
  pub stored-set : (store : PendingView) → byte_among new ≡ stored_among (byte_among old) store → byte_in (record { domains = set domains domain new }) ≡ byte_stored (byte_in (record { domains = domains })) domain store
  stored-set store h = fun_ext (λ d. fun_ext (λ a. at d a)) where
    at : (d a : ℕ) → byte_in (record { domains = set domains domain new }) d a ≡ byte_stored (byte_in (record { domains = domains })) domain store d a
    at d a = elim (cases_eq d domain) [
      | inl e ↦
          let test : eqb d domain ≡ true = grind (arith, nat_tests) in
          rw (here d e, test, ← was d e) (ap (λ (f : ℕ → ℕ). f a) h)
      | inr ne ↦
          let test : eqb d domain ≡ false = grind (arith, nat_tests) in
          rw (get_or-set_other domains domain d new [] ne, test) refl
    ]

  -- some pages of one domain become zero
  pub zeroed-set : (span : SpanView) → span.domain ≡ domain → byte_among new ≡ zeroed_among (byte_among old) span.base span.pages → byte_in (record { domains = set domains domain new }) ≡ zeroed (byte_in (record { domains = domains })) span
  zeroed-set span is h = fun_ext (λ d. fun_ext (λ a. at d a)) where
    at : (d a : ℕ) → byte_in (record { domains = set domains domain new }) d a ≡ zeroed (byte_in (record { domains = domains })) span d a
    at d a = elim (cases_eq d domain) [
      | inl e ↦
          let test : eqb d span.domain ≡ true = grind (arith, nat_tests) in
          rw (here d e, test, ← was d e) (ap (λ (f : ℕ → ℕ). f a) h)
      | inr ne ↦
          let test : eqb d span.domain ≡ false = grind (arith, nat_tests) in
          rw (get_or-set_other domains domain d new [] ne, test) refl
    ]
