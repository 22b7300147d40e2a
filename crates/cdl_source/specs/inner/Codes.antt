-- What the values of a store are told apart by.
use Rattle.std.specs.Prelude.{ℕ, List, refl}
use Rattle.std.specs.Coded.{Coded, code_by, coded×, coded_ℕ, coded_list}
use Rattle.std.specs.FinMap as map
use Rattle.cdl_source.specs.Faults.{CallFaults}
use Rattle.cdl_source.specs.Memory.{Folder, Store}

abbrev pub faults_code : Coded CallFaults
faults_code =
    code_by (ℕ × (List ℕ × ℕ)) (coded× coded_ℕ (coded× (coded_list coded_ℕ) coded_ℕ)) (λ p. (p.calls, (p.failing, p.faults)))
    (λ t. record { calls = t.0; failing = t.1.0; faults = t.1.1 }) (λ _. refl)

abbrev pub store_code : Coded Store
store_code =
    code_by (Folder × (List ℕ × ((ℕ × ℕ) × CallFaults)))
    (coded× (map.code (coded_list coded_ℕ) (coded_list coded_ℕ)) (coded× (coded_list coded_ℕ) (coded× (coded× coded_ℕ coded_ℕ) faults_code)))
    (λ s. (s.files, (s.rest, ((s.begun, s.most), s.calls))))
    (λ t. record { files = t.0; rest = t.1.0; begun = t.1.1.0.0; most = t.1.1.0.1; calls = t.1.1.1 }) (λ _. refl)
