-- How ticks end, and what they print, where all solutions agree.
use Rattle.std.proofs.Common.{◌≡◌, ◌∙◌, ℤ, ℕ, List, [], ◌∷◌, ◌++◌, Option, Some, None, refl, sym, ap, append-nil}
use Rattle.std.specs.Option.{option_map}
use Rattle.cdl_network.specs.Closed.{Closed, Shaped}
use Rattle.cdl_network.specs.FirstBroken.{Accepted}
use Rattle.cdl_network.specs.Network.{Network}
use Rattle.cdl_network.specs.Planned.{AgreeAll, DirectOnly}
use Rattle.cdl_network.specs.Ticks.{Runs, Solves, Tick, Valuation, after, fault_of, first_fault, or_later, seen}
use Rattle.cdl_network.proofs.Accepted.{accepted_solution}
use Rattle.cdl_network.proofs.Solving.{fault_more, one_fault, solves_more}
use Rattle.cdl_table.specs.TableRow.{TableRow}
use Rattle.cdl_table.specs.Trace.{header_text}
use Rattle.cdl_trace.specs.Columns.{Labelled, output_columns}
use Rattle.cdl_trace.specs.Ends.{Ends, fault_in, fault_text, record_of, records_of, ticks_of, trace_of, unless}
use Rattle.cdl_trace.specs.inner.Steps.{Gives}
use Rattle.cdl_trace.proofs.Fronts.{Front, fault_on, front, records_on, same_records, unless_some}

-- each list of ticks has one solution
pub record Sole {I E : Type 0} (n : Network I E) : Type 0 where
  pub closed : Closed n
  pub one : (ts : List Tick) → (vs : List (Valuation E)) × Solves n [] ts vs × ((ws : List (Valuation E)) → Solves n [] ts ws → AgreeAll n ws vs)

pub sole : {I E : Type 0} (n : Network I E) → Closed n → Shaped n → DirectOnly n → Accepted n → Sole n
sole n c z d a = record { closed = c; one = λ ts. accepted_solution n ts c z d a }

-- two solutions have one fault and the same records
pub one_end : {I E : Type 0} (n : Network I E) (ts : List Tick) (vs ws : List (Valuation E)) → Sole n → Solves n [] ts vs → Solves n [] ts ws → fault_of n [] ts vs ≡ fault_of n [] ts ws
one_end n ts vs ws o f g =
    let u = o.one ts in
    one_fault n ts [] [] vs u.0 o.closed tt (u.2 vs f) ∙ sym (one_fault n ts [] [] ws u.0 o.closed tt (u.2 ws g))

pub one_text : {I E : Type 0} (s : Labelled I E) (ts : List Tick) (vs ws : List (Valuation E)) → Sole s.network → Solves s.network [] ts vs → Solves s.network [] ts ws → records_of s [] ts vs ≡ records_of s [] ts ws
one_text s ts vs ws o f g =
    let u = o.one ts in
    same_records s ts [] [] vs u.0 o.closed tt (u.2 vs f) ∙ sym (same_records s ts [] [] ws u.0 o.closed tt (u.2 ws g))

-- ---- the laws

pub one_trace : {I E : Type 0} (s : Labelled I E) (rows : List TableRow) (f g : Option (ℤ × List ℕ)) (t u : List ℕ) → Ends s rows f t → Ends s rows g u → (f ≡ g) × (t ≡ u)
one_trace s rows f g t u a b =
    (a.fault_is a.solution a.solves ∙ sym (b.fault_is a.solution a.solves), a.text_is a.solution a.solves ∙ sym (b.text_is a.solution a.solves))

-- the ticks end as a solution of them does
pub ends_by : {I E : Type 0} (s : Labelled I E) (rows : List TableRow) (us : List (Valuation E)) → Sole s.network → Solves s.network [] (ticks_of rows) us → Ends s rows (fault_in s rows us) (trace_of s rows us)
ends_by s rows us o f =
    record {
      solution = us;
      solves = f;
      fault_is = λ vs g. ap (option_map (fault_text s)) (one_end s.network (ticks_of rows) us vs o f g);
      text_is = λ vs g. ap (λ l. header_text (output_columns s) ++ l) (one_text s (ticks_of rows) us vs o f g);
    }

pub some_end : {I E : Type 0} (s : Labelled I E) (rows : List TableRow) → Sole s.network → (fault : Option (ℤ × List ℕ)) × (text : List ℕ) × Ends s rows fault text
some_end s rows o = let u = o.one (ticks_of rows) in (fault_in s rows u.0, trace_of s rows u.0, ends_by s rows u.0 o u.1)

-- ---- ticks without a fault, and then one

behind_one : {I E : Type 0} (s : Labelled I E) (ts rest : List Tick) (vs us : List (Valuation E)) → Sole s.network → Runs s.network ts vs → (f : Front s.network [] ts rest us) → fault_of s.network [] ts f.head ≡ None
behind_one s ts rest vs us o r f = one_end s.network ts f.head vs o f.solves r.0 ∙ r.1

-- the records of a solution begin with those of the first ticks, where these have no fault
pub records_begin : {I E : Type 0} (s : Labelled I E) (ts rest : List Tick) (vs us : List (Valuation E)) → Sole s.network → Runs s.network ts vs → Solves s.network [] (ts ++ rest) us
    → (more : List ℕ) × (records_of s [] (ts ++ rest) us ≡ records_of s [] ts vs ++ more)
records_begin s ts rest vs us o r h =
    let f = front s.network ts rest [] us h in
    let z = behind_one s ts rest vs us o r f in (
      records_of s (after [] ts f.head) rest f.tail,
      ap (records_of s [] (ts ++ rest)) (f.all z)
          ∙ records_on s ts rest [] f.head f.tail f.solves z
          ∙ ap (λ l. l ++ records_of s (after [] ts f.head) rest f.tail) (one_text s ts f.head vs o f.solves r.0),
    )

some_is : {I : Type 0} (p q : ℤ × I) → Some p ≡ Some q → p ≡ q
some_is p q e = cc

here_is : {I : Type 0} (time : ℤ) (o : Option I) (i : I) (time2 : ℤ) → or_later time o None ≡ Some (time2, i) → o ≡ Some i
here_is time None i time2 e = absurd (cc)
here_is {I} time (Some j) i time2 e =
    let p = some_is {I = I} (time, j) (time2, i) e in
    ap (λ (q : ℤ × I). Some q.1) p

-- a fault at this tick, in each solution
pub record Cut {I E : Type 0} (s : Labelled I E) (ts rest : List Tick) (t : Tick) (vs us : List (Valuation E)) (i : I) : Type 0 where
  pub fault : fault_of s.network [] (ts ++ t ∷ rest) us ≡ Some (t.time, i)
  pub text : records_of s [] (ts ++ t ∷ rest) us ≡ records_of s [] ts vs

cut_by : {I E : Type 0} (s : Labelled I E) (ts rest : List Tick) (t : Tick) (head tail : List (Valuation E)) (i : I) → Solves s.network [] ts head → fault_of s.network [] ts head ≡ None → Solves s.network (after [] ts head) (t ∷ rest) tail
    → ((ws : List (Valuation E)) → Solves s.network [] (ts ++ t ∷ []) ws → fault_of s.network [] (ts ++ t ∷ []) ws ≡ Some (t.time, i)) → Cut s ts rest t head (head ++ tail) i
cut_by s ts rest t head [] i f z g h = absurd g
cut_by s ts rest t head (u ∷ us) i f z g h =
    let more = solves_more s.network ts [] head t u f z g.0 in
    let o = first_fault s.network (after [] ts head) t u in
    let e : o ≡ Some i = here_is t.time o i t.time (sym (fault_more s.network ts [] head t u f z) ∙ h (head ++ u ∷ []) more) in
    record {
      fault = fault_on s.network ts (t ∷ rest) [] head (u ∷ us) f z ∙ ap (λ p. or_later t.time p (fault_of s.network (seen t u ∷ after [] ts head) rest us)) e;
      text = records_on s ts (t ∷ rest) [] head (u ∷ us) f z
          ∙ ap (λ l. records_of s [] ts head ++ l) (unless_some o (record_of s t u ++ records_of s (seen t u ∷ after [] ts head) rest us) i e)
          ∙ append-nil (records_of s [] ts head);
    }

pub cut_here : {I E : Type 0} (s : Labelled I E) (ts rest : List Tick) (t : Tick) (vs us : List (Valuation E)) (i : I) → Sole s.network → Runs s.network ts vs → Solves s.network [] (ts ++ t ∷ rest) us
    → ((ws : List (Valuation E)) → Solves s.network [] (ts ++ t ∷ []) ws → fault_of s.network [] (ts ++ t ∷ []) ws ≡ Some (t.time, i)) → Cut s ts rest t vs us i
cut_here s ts rest t vs us i o r h g =
    let f = front s.network ts (t ∷ rest) [] us h in
    let z = behind_one s ts (t ∷ rest) vs us o r f in
    let c = cut_by s ts rest t f.head f.tail i f.solves z (f.behind z) g in
    let e = f.all z in
    record {
      fault = ap (fault_of s.network [] (ts ++ t ∷ rest)) e ∙ c.fault;
      text = ap (records_of s [] (ts ++ t ∷ rest)) e ∙ c.text ∙ one_text s ts f.head vs o f.solves r.0;
    }

-- the records of one tick more
pub records_more : {I E : Type 0} (s : Labelled I E) (ts : List Tick) (t : Tick) (text : List ℕ) (vs : List (Valuation E)) → Sole s.network → Runs s.network ts vs → (g : Gives s ts t text) → records_of s [] (ts ++ t ∷ []) (g.before ++ g.here ∷ []) ≡ records_of s [] ts vs ++ text
records_more {I} s ts t text vs o r g =
    records_on s ts (t ∷ []) [] g.before (g.here ∷ []) g.past.0 g.past.1
    ∙ ap (λ l. l ++ unless (first_fault s.network (after [] ts g.before) t g.here) (record_of s t g.here ++ [])) (one_text s ts g.before vs o g.past.0 r.0)
    ∙ ap (λ l. records_of s [] ts vs ++ l) (calm (first_fault s.network (after [] ts g.before) t g.here) none ∙ append-nil (record_of s t g.here) ∙ sym g.text_is)
  where
    calm : (o : Option I) → o ≡ None → unless o (record_of s t g.here ++ []) ≡ record_of s t g.here ++ []
    calm None e = refl
    calm (Some i) e = absurd (cc)

    no_fault : (time : ℤ) (o : Option I) → or_later time o None ≡ None → o ≡ None
    no_fault time None e = refl
    no_fault time (Some i) e = absurd (cc)

    none : first_fault s.network (after [] ts g.before) t g.here ≡ None
    none = no_fault t.time (first_fault s.network (after [] ts g.before) t g.here) (sym (fault_more s.network ts [] g.before t g.here g.past.0 g.past.1) ∙ g.runs.1)
