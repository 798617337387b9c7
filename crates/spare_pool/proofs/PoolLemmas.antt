-- A pool as its marks: its free runs are runs of marks, and what marking a run does to its free pages.
use Rattle.std.proofs.Common.{◌≡◌, ℕ, ◌+◌, ◌-◌, ◌^◌, ◌<◌, ◌≤◌, Bool, true, false, not, ◌&&◌, List, [], ◌++◌, length, take, drop, replicate, filter, slice_get, Some, nat_lt, nat_le, refl, sym, ap, ◌∙◌, subst, arith, length-append, append_assoc, length-drop}
use Rattle.std.specs.List.{range_with_len}
use Rattle.std.proofs.lemmas.List.{take-append-drop, drop-drop, length-take-le, length-replicate, append-nil}
use Rattle.std.proofs.lemmas.List.Elements.{All-weaker, filter-append, All-contains}
use Rattle.std.proofs.lemmas.Nat.{pow_pos}
use Rattle.std.proofs.lemmas.Bool.Decides.{nat_tests}
use Rattle.spare_pool.specs.Marks.{marked_from, IsMarkedRun}
use Rattle.spare_pool.specs.Pool.{PoolView, IsPool, IsFreeRun, IsLowestRun, without_run, with_run}
use Rattle.spare_pool.proofs.Places.{place_of_mark, mark_of_place, Between, places-between, places-rising, marked_from-append, marked_from-set, marked_from-unset, filter-all_places, filter-no_places}

-- what contracts see of these marks
abbrev pub pool_of : List Bool → PoolView
pool_of marks = record { pages = length marks; free = marked_from 0 marks }

pub IsPool-pool_of : (marks : List Bool) → length marks ≤ 4096 → IsPool (pool_of marks)
IsPool-pool_of marks h = record {
  limit = h;
  rising = places-rising 0 marks;
  inside = All-weaker (Between 0 (0 + length marks)) (λ page. page < length marks) (λ p b. omega (arith, b.1)) _ (places-between 0 marks);
}

-- the marks of a free run are set
pub marked_from_free : (marks : List Bool) (log first : ℕ) → 0 < 2 ^ log → IsFreeRun (pool_of marks) log first → IsMarkedRun marks (2 ^ log) first
marked_from_free marks log first some run = record {
  aligned = run.aligned;
  inside = (let last = run.free (first + 2 ^ log - 1) (omega arith, omega arith) in
      let h : first + 2 ^ log - 1 < length marks = All-contains (λ page. page < length marks) _ _ (All-weaker (Between 0 (0 + length marks)) (λ page. page < length marks) (λ p b. omega (arith, b.1)) _ (places-between 0 marks)) last in
      omega arith);
  marked = λ i from below. let m = mark_of_place 0 marks i (run.free i (from, below)) in
      let e : m.0 ≡ i = omega (arith, m.1) in subst (λ (k : ℕ). slice_get marks k ≡ Some true) e m.2;
}

-- and a run of set marks is free
pub free_from_marked : (marks : List Bool) (log first : ℕ) → IsMarkedRun marks (2 ^ log) first → IsFreeRun (pool_of marks) log first
free_from_marked marks log first run = record {
  aligned = run.aligned;
  free = λ page inside. place_of_mark 0 marks page page (omega arith) (run.marked page inside.0 inside.1);
}

-- marks in three parts
split3 : (f k : ℕ) (a m c : List Bool) → length a ≡ f → length m ≡ k → marked_from 0 (a ++ m ++ c) ≡ marked_from 0 a ++ marked_from f m ++ marked_from (f + k) c
split3 f k a m c ea em =
    marked_from-append 0 (a ++ m) c
    ∙ ap (λ (n : ℕ). marked_from 0 (a ++ m) ++ marked_from n c) (omega (arith, length-append a m))
    ∙ ap (λ (zs : List ℕ). zs ++ marked_from (f + k) c) (marked_from-append 0 a m ∙ ap (λ (n : ℕ). marked_from 0 a ++ marked_from n m) (omega arith))

-- the three parts of the marks: below the run, in it, above it
parts : (f k : ℕ) (marks : List Bool) → take f marks ++ take k (drop f marks) ++ drop (f + k) marks ≡ marks
parts f k marks =
    append_assoc (take f marks) (take k (drop f marks)) (drop (f + k) marks)
    ∙ ap (λ (zs : List Bool). take f marks ++ (take k (drop f marks) ++ zs)) (sym (drop-drop k f marks))
    ∙ ap (λ (zs : List Bool). take f marks ++ zs) (take-append-drop k (drop f marks))
    ∙ take-append-drop f marks

filter3 : (test : ℕ → Bool) (x y z : List ℕ) → filter test (x ++ y ++ z) ≡ filter test x ++ filter test y ++ filter test z
filter3 test x y z = filter-append test (x ++ y) z ∙ ap (λ (zs : List ℕ). zs ++ filter test z) (filter-append test x y)

join3 : (x y z x' y' z' : List ℕ) → x ≡ x' → y ≡ y' → z ≡ z' → x ++ y ++ z ≡ x' ++ y' ++ z'
join3 x y z x' y' z' p q r = cc

without3 : (f k : ℕ) (a m c : List Bool) → length a ≡ f → length m ≡ k →
    marked_from 0 (a ++ replicate k false ++ c) ≡ filter (λ page. not (nat_le f page && nat_lt page (f + k))) (marked_from 0 (a ++ m ++ c))
without3 f k a m c ea em =
    split3 f k a (replicate k false) c ea (length-replicate k false)
    ∙ join3 _ _ _ _ _ _
    (sym (filter-all_places (λ page. not (nat_le f page && nat_lt page (f + k))) 0 a (λ p l h. grind (arith, nat_tests))))
    (marked_from-unset f k ∙ sym (filter-no_places (λ page. not (nat_le f page && nat_lt page (f + k))) f m (λ p l h. grind (arith, nat_tests))))
    (sym (filter-all_places (λ page. not (nat_le f page && nat_lt page (f + k))) (f + k) c (λ p l h. grind (arith, nat_tests))))
    ∙ sym (filter3 (λ page. not (nat_le f page && nat_lt page (f + k))) (marked_from 0 a) (marked_from f m) (marked_from (f + k) c))
    ∙ ap (λ (zs : List ℕ). filter (λ page. not (nat_le f page && nat_lt page (f + k))) zs) (sym (split3 f k a m c ea em))

only-first : (x y z x' : List ℕ) → x ≡ x' → y ≡ [] → z ≡ [] → x ++ y ++ z ≡ x'
only-first x y z x' p q r = rw (p, q, r) (simp append-nil)

only-last : (x y z z' : List ℕ) → x ≡ [] → y ≡ [] → z ≡ z' → x ++ y ++ z ≡ z'
only-last x y z z' p q r = rw (p, q, r) refl

with3 : (f k : ℕ) (a m c : List Bool) → length a ≡ f → length m ≡ k →
    marked_from 0 (a ++ replicate k true ++ c)
    ≡ filter (λ page. nat_lt page f) (marked_from 0 (a ++ m ++ c)) ++ range_with_len f k ++ filter (λ page. nat_le (f + k) page) (marked_from 0 (a ++ m ++ c))
with3 f k a m c ea em =
    split3 f k a (replicate k true) c ea (length-replicate k true)
    ∙ join3 _ _ _ _ _ _
    (sym (ap (λ (zs : List ℕ). filter (λ page. nat_lt page f) zs) (split3 f k a m c ea em) ∙ filter3 (λ page. nat_lt page f) (marked_from 0 a) (marked_from f m) (marked_from (f + k) c)
    ∙ only-first _ _ _ _
    (filter-all_places (λ page. nat_lt page f) 0 a (λ p l h. grind (arith, nat_tests)))
    (filter-no_places (λ page. nat_lt page f) f m (λ p l h. grind (arith, nat_tests)))
    (filter-no_places (λ page. nat_lt page f) (f + k) c (λ p l h. grind (arith, nat_tests)))))
    (marked_from-set f k)
    (sym (ap (λ (zs : List ℕ). filter (λ page. nat_le (f + k) page) zs) (split3 f k a m c ea em) ∙ filter3 (λ page. nat_le (f + k) page) (marked_from 0 a) (marked_from f m) (marked_from (f + k) c)
    ∙ only-last _ _ _ _
    (filter-no_places (λ page. nat_le (f + k) page) 0 a (λ p l h. grind (arith, nat_tests)))
    (filter-no_places (λ page. nat_le (f + k) page) f m (λ p l h. grind (arith, nat_tests)))
    (filter-all_places (λ page. nat_le (f + k) page) (f + k) c (λ p l h. grind (arith, nat_tests)))))

-- the marks after a write to a run
abbrev pub Written : List Bool → ℕ → ℕ → Bool → List Bool
Written marks f k mark = take f marks ++ replicate k mark ++ drop (f + k) marks

-- a write of this mark to a run does this to the pool
abbrev pub Does : Bool → (PoolView → ℕ → ℕ → PoolView) → Type 0
Does mark after = (pool : PoolView) (marks new : List Bool) (log first : ℕ) → pool_of marks ≡ pool → first + 2 ^ log ≤ length marks → new ≡ Written marks first (2 ^ log) mark → pool_of new ≡ after pool log first

-- as it does where the marks are given in three parts
written-pool_of : (mark : Bool) (after : PoolView → ℕ → ℕ → PoolView)
    → ((log first : ℕ) (a m c : List Bool) → length a ≡ first → length m ≡ 2 ^ log → pool_of (a ++ replicate (2 ^ log) mark ++ c) ≡ after (pool_of (a ++ m ++ c)) log first) → Does mark after
written-pool_of mark after three pool marks new log first view inside e =
    let k = 2 ^ log in
    ap pool_of e
    ∙ three log first (take first marks) (take k (drop first marks)) (drop (first + k) marks) (length-take-le first marks (omega arith)) (length-take-le k (drop first marks) (omega (arith, length-drop first marks)))
    ∙ ap (λ (ms : List Bool). after (pool_of ms) log first) (parts first k marks)
    ∙ ap (λ (p : PoolView). after p log first) view

as-many : (k : ℕ) (mark : Bool) (a m c : List Bool) → length m ≡ k → length (a ++ replicate k mark ++ c) ≡ length (a ++ m ++ c)
as-many k mark a m c em =
    omega (arith, length-append (a ++ replicate k mark) c, length-append a (replicate k mark), length-replicate k mark, length-append (a ++ m) c, length-append a m)

pub without_run-pool_of : Does false without_run
without_run-pool_of =
    written-pool_of false without_run (λ log first a m c ea em. λ i. record { pages = as-many (2 ^ log) false a m c em i; free = without3 first (2 ^ log) a m c ea em i })

pub with_run-pool_of : Does true with_run
with_run-pool_of =
    written-pool_of true with_run (λ log first a m c ea em. λ i. record { pages = as-many (2 ^ log) true a m c em i; free = with3 first (2 ^ log) a m c ea em i })

-- A function reads the marks through a slice, and computes the size of a run.
run_at : (slice marks : List Bool) (size k first : ℕ) → slice ≡ marks → size ≡ k → IsMarkedRun slice size first → IsMarkedRun marks k first
run_at slice marks size k first e g h = subst (λ (xs : List Bool). IsMarkedRun xs k first) e (subst (λ (n : ℕ). IsMarkedRun slice n first) g h)

pub free_in : (pool : PoolView) (marks slice : List Bool) (size log first : ℕ) → pool_of marks ≡ pool → slice ≡ marks → size ≡ 2 ^ log → IsMarkedRun slice size first → IsFreeRun pool log first
free_in pool marks slice size log first view e g h = subst (λ (p : PoolView). IsFreeRun p log first) view (free_from_marked marks log first (run_at slice marks size (2 ^ log) first e g h))

pub marked_in : (pool : PoolView) (marks slice : List Bool) (size log first : ℕ) → pool_of marks ≡ pool → slice ≡ marks → size ≡ 2 ^ log → IsFreeRun pool log first → IsMarkedRun slice size first
marked_in pool marks slice size log first view e g h =
    run_at marks slice (2 ^ log) size first (sym e) (sym g) (marked_from_free marks log first (pow_pos log) (subst (λ (p : PoolView). IsFreeRun p log first) (sym view) h))

pub lowest_in : (pool : PoolView) (marks slice : List Bool) (size log first : ℕ) → pool_of marks ≡ pool → slice ≡ marks → size ≡ 2 ^ log → IsMarkedRun slice size first → ((other : ℕ) → IsMarkedRun slice size other → first ≤ other) → IsLowestRun pool log first
lowest_in pool marks slice size log first view e g h low = record {
  run = free_in pool marks slice size log first view e g h;
  lowest = λ other free. low other (marked_in pool marks slice size log other view e g free);
}

pub IsPool-seen : (pool : PoolView) (marks : List Bool) → pool_of marks ≡ pool → length marks ≤ 4096 → IsPool pool
IsPool-seen pool marks view h = subst IsPool view (IsPool-pool_of marks h)

-- a pool is one after a write through a slice of its marks
pub IsPool-written : (marks slice new items : List Bool) → items ≡ new → length new ≡ length slice → slice ≡ marks → length marks ≤ 4096 → IsPool (pool_of items)
IsPool-written marks slice new items e count whole limit = IsPool-pool_of items (omega (arith, ap length e, count, ap length whole, limit))

pub Written-seen : (slice marks new : List Bool) (first size k : ℕ) (mark : Bool) → slice ≡ marks → size ≡ k → new ≡ Written slice first size mark → new ≡ Written marks first k mark
Written-seen slice marks new first size k mark e g h =
    h ∙ ap (λ (xs : List Bool). Written xs first size mark) e ∙ ap (λ (n : ℕ). Written marks first n mark) g
