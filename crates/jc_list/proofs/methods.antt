pub mod FaultsByMethod
