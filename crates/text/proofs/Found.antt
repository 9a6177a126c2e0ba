-- What `find_map` over the keys finds: a keyword of the line, and none only where the line has none.
use Rattle.std.proofs.Common.{◌≡◌, ℕ, ◌+◌, ◌<◌, List, ◌++◌, length, get_or, Some, None, Option, MatchOption, IsTrue, IfSome, IsSomeAnd, sym, subst}
use denote.Param.Members.{Mut, Called}
use Rattle.std.specs.Borrow.{Bor}
use Rattle.std.specs.Iterator.Runs.{Run, ItemsMapTo, AllItemsGive, IsFirstToGive, CallKeepsClosure}
use Rattle.std.specs.List.{slice_index_or}
use Rattle.std.specs.Option.{option_map}
use Rattle.std.proofs.ByRecursion.{all_from_every}
use Rattle.std.proofs.lemmas.Option.{none-some}
use Rattle.std.proofs.lemmas.List.Elements.{All-from_get_or}
use Rattle.text.specs.Keyed.{key_text, Unkeyed, IsKeyed, IsCutBy}
use Rattle.text.specs.declared.keys.Key.{Key}
use Rattle.text.specs.declared.keys.Key.TheVariants.{Plan}
use Rattle.text.proofs.Table.{all_keys, each}

module _
    {S F : Type 0} {steps : S → Option (Bor Key) → S → Type 0} (g : Mut F (Bor Key × Unit {0}) (Option (Key × Bor (List ℕ)))) (f : F) (line : List ℕ) (p : Run steps)
    (keeps : CallKeepsClosure g f) (cuts : (key : Bor Key) (r : Option (Key × Bor (List ℕ))) (q : F) → Called g f (key, tt) r q → IsCutBy key.now line r) (from : ItemsMapTo p (λ key. key.now) all_keys) where
  none : IsTrue p.whole → AllItemsGive p g f None → (k : ℕ) → k < length all_keys → Unkeyed line (get_or all_keys k Plan)
  none whole gives k l = at (p.at k) (from.2 k Plan (subst (λ n. k < n) (sym (from.1 whole)) l)) (gives keeps k)
    where
      at : (o : Option (Bor Key)) → option_map (λ key. key.now) o ≡ Some (slice_index_or all_keys k Plan) → IfSome o (λ x. Called g f (x, tt) None f) → Unkeyed line (get_or all_keys k Plan)
      at None e h = absurd (none-some _ e)
      at (Some x) e h = subst (Unkeyed line) (cc) (cuts x None f h)

  pub found : (r : Option (Key × Bor (List ℕ))) → MatchOption r (IsTrue p.whole × AllItemsGive p g f None) (λ y. (i : ℕ) × (i < p.len) × (p.len ≡ i + 1) × IsFirstToGive p g f (Some y) None i) → IsKeyed line r
  found None h = each (Unkeyed line) (all_from_every (Unkeyed line) all_keys (λ k d _ l. All-from_get_or (Unkeyed line) all_keys Plan (none h.0 h.1) k d l))
  found (Some y) h = at (p.at h.0) (h.3 keeps).0
    where
      at : (o : Option (Bor Key)) → IsSomeAnd o (λ x. Called g f (x, tt) (Some y) f) → line ≡ key_text y.0 ++ y.1.now
      at None c = absurd c
      at (Some x) c = cuts x (Some y) f c
