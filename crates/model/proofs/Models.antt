-- What follows from the laws of a graph: absent nodes, mirrored rows, nodes on a path. Assumes nothing.
use Rattle.std.proofs.Common.{◌≡◌, ℕ, ◌<◌, true, false, List, [], ◌∷◌, Some, None, refl, subst, inl, inr, arith}
use Rattle.std.proofs.lemmas.Bool.Decides.{nat_tests}
use Rattle.std.proofs.lemmas.Bool.{both_ways}
use Rattle.model.specs.declared.Direction.{Direction}
use Rattle.model.specs.declared.Direction.TheVariants.{Outgoing, Incoming}
use Rattle.model.specs.declared.Kind.{Kind}
use Rattle.model.specs.declared.Kind.TheVariants.{OneWay, TwoWay}
use Rattle.model.specs.Model.{Model, Entry, Ends, Lawful, Far, due, bit}
use Rattle.model.specs.Paths.{Leads, Step, Follows, In, nodes_of}
use Rattle.model.specs.Laws.{AbsentRows, Mirror, PathPresent}
use Rattle.model.proofs.Entries.{leads_far, leads_count, count_leads}

module _ (m : Model) (w : Lawful m) where
  -- both ends of an entry are present
  ends_present : (e a b : ℕ) (o : Ends) → m.ends e ≡ o → Far o a b → (m.present a ≡ true) × (m.present b ≡ true)
  ends_present e a b None q f = absurd f
  ends_present e a b (Some (t, h)) q f =
      let k = w.known e t h q in
      let f0 = f.0 in
      let f1 = f.1 in
      let k1 = k.1 in
      let k2 = k.2 in
      (grind (arith, nat_tests), grind (arith, nat_tests))

  pub leads_present : (d : Direction) (e a b : ℕ) → Leads e b (m.row d a) → (m.present a ≡ true) × (m.present b ≡ true)
  leads_present d e a b i = ends_present e a b (m.ends e) refl (leads_far m.ends a (m.row d a) e b (w.rows d a).fars i)

  none_leads : (a : ℕ) → (xs : List Entry) → ((e b : ℕ) → Leads e b xs → ⊥) → xs ≡ []
  none_leads a [] h = refl
  none_leads a (x ∷ xs) h = absurd (h x.1 x.2 (inl (refl, refl)))

  pub absent_row : (d : Direction) (a : ℕ) → m.present a ≡ false → m.row d a ≡ []
  absent_row d a h = none_leads a (m.row d a) (λ e b i. both_ways (m.present a) h (leads_present d e a b i).0)

pub absent_rows : AbsentRows
absent_rows m w d a h = absent_row m w d a h

-- an edge of a with the far node b, seen from b
record Seen (k : Kind) (d : Direction) (o : Ends) (a b : ℕ) : Type 0 where
  there : 0 < bit (due k d o b)
  leads : (c : ℕ) → Far o b c → c ≡ a

abbrev across : Direction → Direction
across Outgoing = Incoming
across Incoming = Outgoing

seen : (k : Kind) (d : Direction) (o : Ends) (a b : ℕ) → Far o a b → 0 < bit (due k d o a) → Seen k (across d) o a b
seen k d None a b f u = absurd f
seen OneWay Outgoing (Some (t, h)) a b f u = let q = f.0 in let s = f.1 in record { there = grind (arith, nat_tests); leads = λ c g. let p = g.0 in let r = g.1 in grind (arith, nat_tests) }
seen OneWay Incoming (Some (t, h)) a b f u = let q = f.0 in let s = f.1 in record { there = grind (arith, nat_tests); leads = λ c g. let p = g.0 in let r = g.1 in grind (arith, nat_tests) }
seen TwoWay Outgoing (Some (t, h)) a b f u = let q = f.0 in let s = f.1 in record { there = grind (arith, nat_tests); leads = λ c g. let p = g.0 in let r = g.1 in grind (arith, nat_tests) }
seen TwoWay Incoming (Some (t, h)) a b f u = let q = f.0 in let s = f.1 in record { there = grind (arith, nat_tests); leads = λ c g. let p = g.0 in let r = g.1 in grind (arith, nat_tests) }

leads_back : (m : Model) → Lawful m → (d : Direction) (e a b : ℕ) → Leads e b (m.row d a) → Leads e a (m.row (across d) b)
leads_back m w d e a b i =
    let f = leads_far m.ends a (m.row d a) e b (w.rows d a).fars i in
    let u = leads_count (m.row d a) e b i in
    let ex = (w.rows d a).exact e in
    let s = seen m.kind d (m.ends e) a b f (omega arith) in
    let z = s.there in
    let ey = (w.rows (across d) b).exact e in
    let p = count_leads (m.row (across d) b) e (omega arith) in
    let g = leads_far m.ends b (m.row (across d) b) e p.0 (w.rows (across d) b).fars p.1 in
    let P : ℕ → Type 0 = λ v. Leads e v (m.row (across d) b) in
    subst P (s.leads p.0 g) p.1

pub mirrored : Mirror
mirrored m w = record {
  out = leads_back m w Outgoing;
  back = λ e a b. leads_back m w Incoming e b a;
}

module _ (m : Model) (w : Lawful m) where
  follows_present : (a : ℕ) (s : List Step) (b : ℕ) → Follows m a s b → (v : ℕ) → In v (nodes_of s) → m.present v ≡ true
  follows_present a [] b f v i = absurd i
  follows_present a (x ∷ s) b f v (inl q) = rw q (leads_present m w Outgoing x.0 a x.1 f.0).1
  follows_present a (x ∷ s) b f v (inr i) = follows_present x.1 s b f.1 v i

pub path_present : PathPresent
path_present m w a s b p v (inl q) = rw q p.start
path_present m w a s b p v (inr i) = follows_present m w a s b p.steps v i
